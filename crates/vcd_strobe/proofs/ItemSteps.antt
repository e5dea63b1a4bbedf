-- What is kept of all codes, with one item more.
use Rattle.std.proofs.Common.{◌≡◌, ◌≢◌, ◌⊎◌, inl, inr, ℕ, ◌<◌, ◌≤◌, Bool, true, false, ◌&&◌, is_none, List, [], ◌∷◌, ◌++◌, length, take, set, cond, slice_get, option_map, Option, Some, None, refl, sym, ap, subst, ◌∙◌, arith}
use Rattle.std.proofs.lemmas.Bool.{cases_eq}
use Rattle.std.proofs.lemmas.List.{length-set}
use Rattle.std.proofs.lemmas.Option.{same_Some}
use Rattle.std.specs.List.{AllByRecursion}
use Rattle.vcd_model.specs.Declarations.{IdCode, same_code}
use Rattle.vcd_model.specs.Header.{Header}
use Rattle.vcd_model.specs.History.{final_value, gives_to}
use Rattle.vcd_model.specs.Items.{BodyItem, Change, SectionKind, leaves_open, open_section, time_after}
use Rattle.vcd_model.specs.Strobe.{is_vars, last_time}
use Rattle.vcd_model.specs.Values.{Value, value_of}
use Rattle.vcd_body.specs.Contents.{shown_as}
use Rattle.vcd_body.specs.Items.{model_section}
use Rattle.vcd_body.specs.Kept.{Held, value_at_size}
use Rattle.vcd_body.specs.declared.item.Section.{Section}
use Rattle.vcd_body.specs.declared.item.Section.TheVariants as section
use Rattle.vcd_body.specs.Contents.{IsLaidOut, codes_shown}
use Rattle.vcd_body.specs.declared.values.table.Table.{Table}
use Rattle.vcd_strobe.proofs.ListSteps.{enlists, set_at, set_followed, set_other}
use Rattle.vcd_strobe.proofs.EdgeLemmas.{still_clocked}
use Rattle.vcd_strobe.proofs.RoleSteps.{role_changed, role_ignored, role_inside, role_other, role_time, role_triggered}
use Rattle.std.proofs.lemmas.Option.{slice_get_within}
use Rattle.vcd_strobe.proofs.Sampled.{time_still}
use Rattle.vcd_strobe.specs.Codes.{AreRoles}
use Rattle.vcd_strobe.specs.Kept.{IsFull, IsRole}
use Rattle.vcd_strobe.specs.Lines.{ArePlaces, in_places}
use Rattle.vcd_strobe.specs.Listed.{AreListed, followed_at}
use Rattle.vcd_strobe.specs.Roles.{changed, enlisted, is_followed, is_idle, triggered}
use Rattle.vcd_strobe.specs.Strobes.{HasShares, Stands, has_lines_in, is_start}
use Rattle.vcd_strobe.specs.declared.clocks.Clock.{Clock}
use Rattle.vcd_strobe.specs.declared.role.Role.{Role}
use Rattle.vcd_strobe.specs.declared.whole.Strobe.{Strobe}

module _ (s : Strobe) (h : Header) (names : List (List ℕ)) (es : List (List BodyItem)) (items : List BodyItem) (has : Stands s h names es items) where
  -- the roles after another item
  stands_with : (more : List BodyItem) → AreRoles (λ c code place. in_places s.table c.size code place) (has_lines_in h names) h.codes es more s.roles.now → Stands s h names es more
  stands_with more roles = record { places = has.places; laid = has.laid; shares = has.shares; roles_are = roles; many = has.many; list = has.list; room = has.room; id = has.id; clocked = has.clocked }

  -- a timestamp
  pub stands_time : (t : ℕ) → time_after items ≤ t → Stands s h names es (items ++ BodyItem.Time t ∷ [])
  stands_time t forth = stands_with (items ++ BodyItem.Time t ∷ []) (λ i c there.
      let r = has.roles_are i c there in (r.0, r.1, role_time (λ place. in_places s.table c.size i place) es items c (has_lines_in h names c) r.0 r.2 t forth))

  -- an item that gives no code anything
  pub stands_other : (x : BodyItem) → time_after (items ++ x ∷ []) ≡ time_after items → ((c : IdCode) → gives_to c x ≡ false) → Stands s h names es (items ++ x ∷ [])
  stands_other x time none = stands_with (items ++ x ∷ []) (λ i c there.
      let r = has.roles_are i c there in (r.0, r.1, role_other (λ place. in_places s.table c.size i place) es items c (has_lines_in h names c) r.0 r.2 x time (none c)))

  -- a change of one code
  module _ (d : Change) (code : ℕ) (a : IdCode) (declared : slice_get h.codes code ≡ Some a) (gives : same_code a d.code ≡ true)
      (others : (i : ℕ) (c : IdCode) → slice_get h.codes i ≡ Some c → i ≢ code → gives_to c (BodyItem.Changes d) ≡ false) where
    abbrev after : List BodyItem
    after = items ++ BodyItem.Changes d ∷ []

    -- of an event, inside a section
    pub stands_inside : a.event ≡ true → leaves_open items ≡ true → Stands s h names es after
    stands_inside event inside = stands_with after (λ i c there. by_place i c there (cases_eq i code))
      where
        by_place : (i : ℕ) (c : IdCode) → slice_get h.codes i ≡ Some c → (i ≡ code) ⊎ (i ≢ code) → (r : Role) × (slice_get s.roles.now i ≡ Some r)
            × IsRole (λ place. in_places s.table c.size i place) es after c (has_lines_in h names c) r
        by_place i c there (inl e) =
            let r = has.roles_are i c there in
            let one : c ≡ a = same_Some c a (sym there ∙ ap (slice_get h.codes) e ∙ declared) in (
              r.0,
              r.1,
              role_inside (λ place. in_places s.table c.size i place) es items c (has_lines_in h names c) r.0 r.2 (BodyItem.Changes d)
                  (time_still items (BodyItem.Changes d) refl) (ap (λ (y : IdCode). y.event) one ∙ event) inside,
            )
        by_place i c there (inr apart) =
            let r = has.roles_are i c there in (
              r.0,
              r.1,
              role_other (λ place. in_places s.table c.size i place) es items c (has_lines_in h names c) r.0 r.2 (BodyItem.Changes d)
                  (time_still items (BodyItem.Changes d) refl) (others i c there apart),
            )

    -- of a code whose values are not kept
    pub stands_ignored : (q : Role) → slice_get s.roles.now code ≡ Some q → is_followed q.wanted ≡ false → Stands s h names es after
    stands_ignored q its ignored = stands_with after (λ i c there. by_place i c there (cases_eq i code))
      where
        by_place : (i : ℕ) (c : IdCode) → slice_get h.codes i ≡ Some c → (i ≡ code) ⊎ (i ≢ code) → (r : Role) × (slice_get s.roles.now i ≡ Some r)
            × IsRole (λ place. in_places s.table c.size i place) es after c (has_lines_in h names c) r
        by_place i c there (inl e) =
            let r = has.roles_are i c there in
            let same : r.0 ≡ q = same_Some r.0 q (sym r.1 ∙ ap (slice_get s.roles.now) e ∙ its) in (
              r.0,
              r.1,
              role_ignored (λ place. in_places s.table c.size i place) es items c (has_lines_in h names c) r.0 r.2 (BodyItem.Changes d)
                  (time_still items (BodyItem.Changes d) refl) (ap (λ (x : Role). is_followed x.wanted) same ∙ ignored),
            )
        by_place i c there (inr apart) =
            let r = has.roles_are i c there in (
              r.0,
              r.1,
              role_other (λ place. in_places s.table c.size i place) es items c (has_lines_in h names c) r.0 r.2 (BodyItem.Changes d)
                  (time_still items (BodyItem.Changes d) refl) (others i c there apart),
            )

    -- with a new role of the code
    module _ (s' : Strobe) (r q : Role) (role : slice_get s.roles.now code ≡ Some r) (wanted : q.wanted ≡ r.wanted) (places : s'.places ≡ s.places)
        (table : s'.table ≡ s.table) (id : s'.id ≡ s.id) (clocks : s'.clocks ≡ s.clocks) (roles : s'.roles.now ≡ set s.roles.now code (enlisted q))
        (within : s.count ≤ length s.listed.now → s'.count ≤ length s'.listed.now) (long : length s'.listed.now ≡ length s.listed.now)
        (more : s.count < length s.listed.now → take s'.count s'.listed.now ≡ take s.count s.listed.now ++ cond (is_idle q.wanted) (code ∷ []) [])
        (same : is_idle q.wanted ≡ false → take s'.count s'.listed.now ≡ take s.count s.listed.now) where
      new_list : AreListed s'.roles.now s'.listed.now s'.count
      new_list = subst (λ (rs : List Role). AreListed rs s'.listed.now s'.count) (sym roles)
          (enlists s.roles.now s.listed.now s.count has.list (let room = has.room in let many = has.many in
          omega (arith, room, many)) code r q role wanted s'.listed.now s'.count long within more same)

      new_roles : IsRole (λ place. in_places s.table a.size code place) es after a (has_lines_in h names a) (enlisted q)
          → AreRoles (λ c i place. in_places s.table c.size i place) (has_lines_in h names) h.codes es after (set s.roles.now code (enlisted q))
      new_roles its i c there = by_place i c there (cases_eq i code)
        where
          by_place : (i : ℕ) (c : IdCode) → slice_get h.codes i ≡ Some c → (i ≡ code) ⊎ (i ≢ code) → (p : Role)
              × (slice_get (set s.roles.now code (enlisted q)) i ≡ Some p)
              × IsRole (λ place. in_places s.table c.size i place) es after c (has_lines_in h names c) p
          by_place i c there (inl e) =
              let one : a ≡ c = same_Some a c (sym declared ∙ ap (slice_get h.codes) (sym e) ∙ there) in (
                enlisted q,
                ap (slice_get (set s.roles.now code (enlisted q))) e ∙ set_at s.roles.now code (enlisted q) (slice_get_within s.roles.now code r role),
                subst (λ (y : IdCode). IsRole (λ place. in_places s.table y.size i place) es after y (has_lines_in h names y) (enlisted q)) one
                    (subst (λ n. IsRole (λ place. in_places s.table a.size n place) es after a (has_lines_in h names a) (enlisted q)) (sym e) its),
              )
          by_place i c there (inr apart) =
              let p = has.roles_are i c there in (
                p.0,
                set_other s.roles.now code i (enlisted q) apart ∙ p.1,
                role_other (λ place. in_places s.table c.size i place) es items c (has_lines_in h names c) p.0 p.2 (BodyItem.Changes d)
                    (time_still items (BodyItem.Changes d) refl) (others i c there apart),
              )

      stands_set : IsRole (λ place. in_places s.table a.size code place) es after a (has_lines_in h names a) (enlisted q) → Stands s' h names es after
      stands_set its = record {
        places = subst (λ v. ArePlaces (codes_shown v) h.codes) (sym places) has.places;
        laid = subst IsLaidOut (sym table) has.laid;
        shares = subst (λ t. HasShares t h.codes) (sym table) has.shares;
        roles_are = subst (λ (t : Table). AreRoles (λ c i place. in_places t c.size i place) (has_lines_in h names) h.codes es after s'.roles.now) (sym table)
            (subst (AreRoles (λ c i place. in_places s.table c.size i place) (has_lines_in h names) h.codes es after) (sym roles) (new_roles its));
        many = ap length roles ∙ length-set s.roles.now code (enlisted q) ∙ has.many;
        list = new_list;
        room = (let room = has.room in omega (arith, room, long));
        id = ap (λ (b : _). b.now) id ∙ has.id;
        clocked = subst (λ (rs : List Role). AllByRecursion (λ (k : Clock). followed_at rs k.code ≡ true) s'.clocks.now) (sym roles)
            (subst (λ (b : _). AllByRecursion (λ (k : Clock). followed_at (set s.roles.now code (enlisted q)) k.code ≡ true) b.now) (sym clocks)
            (still_clocked s.roles.now (set s.roles.now code (enlisted q)) (set_followed s.roles.now code r q role wanted) s.clocks.now has.clocked));
      }

    pub its_role : (r : Role) → slice_get s.roles.now code ≡ Some r → IsRole (λ place. in_places s.table a.size code place) es items a (has_lines_in h names a) r
    its_role r role = let p = has.roles_are code a declared in subst
        (IsRole (λ place. in_places s.table a.size code place) es items a (has_lines_in h names a)) (same_Some p.0 r (sym p.1 ∙ role)) p.2

    -- a trigger
    pub stands_triggered : (s' : Strobe) (r : Role) (t : ℕ) → t ≡ time_after items → a.event ≡ true → leaves_open items ≡ false
        → last_time es ≤ time_after items → slice_get s.roles.now code ≡ Some r → s'.places ≡ s.places → s'.table ≡ s.table → s'.id ≡ s.id → s'.clocks ≡ s.clocks
        → s'.roles.now ≡ set s.roles.now code (enlisted (triggered r t))
        → (s.count ≤ length s.listed.now → s'.count ≤ length s'.listed.now) → length s'.listed.now ≡ length s.listed.now
        → (s.count < length s.listed.now → take s'.count s'.listed.now ≡ take s.count s.listed.now ++ cond (is_idle r.wanted) (code ∷ []) [])
        → (is_idle r.wanted ≡ false → take s'.count s'.listed.now ≡ take s.count s.listed.now) → Stands s' h names es after
    stands_triggered s' r t is event outside low role places table id clocks roles within long more same =
        stands_set s' r (triggered r t) role refl places table id clocks roles within long more same
        (subst (λ u. IsRole (λ place. in_places s.table a.size code place) es after a (has_lines_in h names a) (enlisted (triggered r u))) (sym is)
        (role_triggered (λ place. in_places s.table a.size code place) es items a (has_lines_in h names a) r
        (its_role r role) d gives event outside low))

    -- a value, in one of its places
    pub stands_changed : (s' : Strobe) (r : Role) (t place : ℕ) (start : Bool) → t ≡ time_after items → a.event ≡ false → place < 4
        → in_places s.table a.size code place ≡ Some (value_of d) → IsFull a.size (Some (value_of d))
        → (is_followed r.wanted ≡ true → start ≡ (is_none (final_value items a) && is_vars (open_section items))) → slice_get s.roles.now code ≡ Some r → s'.places ≡ s.places
        → s'.table ≡ s.table → s'.id ≡ s.id → s'.clocks ≡ s.clocks → s'.roles.now ≡ set s.roles.now code (enlisted (changed r t place start))
        → (s.count ≤ length s.listed.now → s'.count ≤ length s'.listed.now) → length s'.listed.now ≡ length s.listed.now
        → (s.count < length s.listed.now → take s'.count s'.listed.now ≡ take s.count s.listed.now ++ cond (is_idle r.wanted) (code ∷ []) [])
        → (is_idle r.wanted ≡ false → take s'.count s'.listed.now ≡ take s.count s.listed.now) → Stands s' h names es after
    stands_changed s' r t place start is event few value full start_is role places table id clocks roles within long more same =
        stands_set s' r (changed r t place start) role refl places table id clocks roles within long more same
        (subst (λ u. IsRole (λ p. in_places s.table a.size code p) es after a (has_lines_in h names a) (enlisted (changed r u place start))) (sym is)
        (role_changed (λ p. in_places s.table a.size code p) es items a (has_lines_in h names a) r
        (its_role r role) d gives event place few value full start start_is))

-- whether a change is from the start, by what the table shows and the registers
pub start_by : (held : Held) (size : ℕ) (v : Option Value) → value_at_size size held ≡ v → (o : Option Section) (left : Option SectionKind)
    → option_map model_section o ≡ left → is_start (shown_as held) o ≡ (is_none v && is_vars left)
start_by Held.Unset size v e None left f = rw (sym e, sym f) refl
start_by Held.Unset size v e (Some section.Vars) left f = rw (sym e, sym f) refl
start_by Held.Unset size v e (Some section.Off) left f = rw (sym e, sym f) refl
start_by Held.Unset size v e (Some section.On) left f = rw (sym e, sym f) refl
start_by Held.Unset size v e (Some section.All) left f = rw (sym e, sym f) refl
start_by (Held.Digits ds) size v e o left f = rw (sym e) refl
start_by (Held.Text text) size v e o left f = rw (sym e) refl
