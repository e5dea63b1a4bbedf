-- How a strobe stands before the first item.
use Rattle.std.proofs.Common.{◌≡◌, ℕ, ◌<◌, ◌≤◌, ◌==◌, Bool, true, false, cond, List, [], length, slice_get, option_map, unwrap_or, Option, Some, None, refl, sym, ap, subst, ◌∙◌, arith}
use Rattle.std.specs.List.{list_any}
use Rattle.vcd_model.specs.Declarations.{IdCode}
use Rattle.vcd_model.specs.Header.{Header}
use Rattle.vcd_model.specs.Strobe.{Clock as ModelClock, edges_in}
use Rattle.vcd_model.specs.Values.{Value}
use Rattle.vcd_view.specs.declared.view.Code.{Code}
use Rattle.vcd_view.specs.declared.view.HeadView.{HeadView}
use Rattle.vcd_body.specs.Contents.{GivesShares, IsLaidOut, codes_shown, kept_at}
use Rattle.vcd_body.specs.Kept.{Held, Kept, unset, value_at_size}
use Rattle.vcd_body.specs.Stored.{room_of, share_of}
use Rattle.vcd_body.specs.declared.values.table.Table.{Table}
use Rattle.vcd_strobe.proofs.ChangeSteps.{edges_as}
use Rattle.vcd_strobe.proofs.EdgeSteps.{edges_none}
use Rattle.vcd_strobe.proofs.FollowSteps.{clocks_follow}
use Rattle.vcd_strobe.proofs.LineSteps.{declared_is, declared_there}
use Rattle.vcd_strobe.proofs.Sampled.{sampled_first}
use Rattle.vcd_strobe.specs.Kept.{IsRole}
use Rattle.vcd_strobe.specs.Lines.{ArePlaces, in_places, place_of}
use Rattle.vcd_strobe.specs.Listed.{AreListed, FollowsEach, listed_at}
use Rattle.vcd_strobe.specs.Roles.{followed, fresh, has_lines, is_listed}
use Rattle.vcd_strobe.specs.Strobes.{AreFresh, HasStrobed, Stands, Suffices, has_lines_in, strobe_plan}
use Rattle.vcd_strobe.specs.declared.clocks.Clock.{Clock}
use Rattle.vcd_strobe.specs.declared.role.Role.{Role}
use Rattle.vcd_strobe.specs.declared.role.Wanted.{Wanted}
use Rattle.vcd_strobe.specs.declared.role.Wanted.TheVariants.{Idle, Never, Silent}
use Rattle.vcd_strobe.specs.declared.whole.Strobe.{Strobe}

-- ---- a role

-- a role before the first item
abbrev first : Bool → Bool → Role
first kept lines = cond kept (followed (fresh lines)) (fresh lines)

unlisted : (kept lines : Bool) → is_listed (first kept lines).wanted ≡ false
unlisted true true = refl
unlisted true false = refl
unlisted false true = refl
unlisted false false = refl

role_with : (at : ℕ → Option Value) (c : IdCode) (lines : Bool) → at 0 ≡ None → (w : Wanted) → has_lines w ≡ lines → is_listed w ≡ false
    → IsRole at [] [] c lines (record { now = 0; before = 0; written = 0; since = None; early = false; wanted = w })
role_with at c lines none w lines_are unlisted = record {
  within = record { now = omega arith; before = omega arith; written = omega arith };
  low = tt;
  lines_are = lines_are;
  values = λ event follows.
      record {
        now_is = none;
        settled_is = none ∙ sym (sampled_first c);
        written_is = λ e. none;
        idle = λ e. (refl, sampled_first c);
        full = tt;
        fresh = λ e. refl;
      };
  triggers = λ event follows. record { here = refl; all = λ e. sym unlisted; due = λ e. sym unlisted };
}

role_first : (at : ℕ → Option Value) (c : IdCode) (kept lines : Bool) → at 0 ≡ None → IsRole at [] [] c lines (first kept lines)
role_first at c true true none = role_with at c true none Idle refl refl
role_first at c true false none = role_with at c false none Silent refl refl
role_first at c false true none = role_with at c true none Idle refl refl
role_first at c false false none = role_with at c false none Never refl refl

-- ---- the list

module _ (h : Header) (names : List (List ℕ)) (old roles : List Role) (clocks : List Clock) (are : AreFresh h names old) (follows : FollowsEach clocks old roles) where
  first_at : (i : ℕ) → slice_get roles i ≡ option_map (λ c. first (list_any (λ (k : Clock). k.code == i) clocks) (has_lines_in h names c)) (slice_get h.codes i)
  first_at i =
      follows i ∙ ap (option_map (λ (r : Role). cond (list_any (λ (k : Clock). k.code == i) clocks) (followed r) r)) (are.each i)
      ∙ by_code (slice_get h.codes i)
    where
      by_code : (o : Option IdCode) → option_map (λ (r : Role). cond (list_any (λ (k : Clock). k.code == i) clocks) (followed r) r)
          (option_map (λ c. fresh (has_lines_in h names c)) o)
          ≡ option_map (λ c. first (list_any (λ (k : Clock). k.code == i) clocks) (has_lines_in h names c)) o
      by_code None = refl
      by_code (Some c) = refl

  none_listed : (i : ℕ) → listed_at roles i ≡ false
  none_listed i = ap (λ o. unwrap_or (option_map (λ (r : Role). is_listed r.wanted) o) false) (first_at i) ∙ by_code (slice_get h.codes i)
    where
      by_code : (o : Option IdCode) → unwrap_or (option_map (λ (r : Role). is_listed r.wanted)
          (option_map (λ c. first (list_any (λ (k : Clock). k.code == i) clocks) (has_lines_in h names c)) o)) false ≡ false
      by_code None = refl
      by_code (Some c) = unlisted (list_any (λ (k : Clock). k.code == i) clocks) (has_lines_in h names c)

  list_first : (listed : List ℕ) → AreListed roles listed 0
  list_first listed = record { within = omega arith; once = λ i. sym (ap (λ b. cond b 1 0) (none_listed i)) }

-- ---- the table

-- each place has its share, and no value
module _ (v : HeadView) (t : Table) (n : ℕ) (codes : List IdCode) (places : ArePlaces (codes_shown v) codes) (gives : GivesShares v.codes.now n t) (enough : room_of v.codes.now ≤ n) where
  place_first : (code place : ℕ) (c : IdCode) → place < 4 → slice_get codes code ≡ Some c → kept_at t (place_of code place) ≡ Some (unset (share_of c.size))
  place_first code place c low there = by_code (slice_get v.codes.now (place_of code place)) refl
    where
      by_code : (o : Option Code) → o ≡ slice_get v.codes.now (place_of code place) → kept_at t (place_of code place) ≡ Some (unset (share_of c.size))
      by_code (Some d) e =
          let is = declared_is v codes code c places there (place_of code place) place d low refl e in
          gives enough (place_of code place) d (sym e) ∙ ap (λ (y : IdCode). Some (unset (share_of y.size))) is
      by_code None e = absurd (declared_there v codes code c places there (place_of code place) place low refl e)

  value_first : (code : ℕ) (c : IdCode) → slice_get codes code ≡ Some c → in_places t c.size code 0 ≡ None
  value_first code c there = ap (λ o. value_at_size c.size (unwrap_or (option_map (λ (k : Kept). k.held) o) Held.Unset)) (place_first code 0 c (omega arith) there)

-- ---- the whole

module _ (s : Strobe) (bytes : ℕ) (h : Header) (names : List (List ℕ)) (ks : List ModelClock)
    (old : List Role) (follows : FollowsEach s.clocks.now old s.roles.now) (many : length s.roles.now ≡ length old)
    (enough : Suffices s.places bytes (length s.listed.now) old s.clocks.now s.id.now h names ks) (laid : IsLaidOut s.table)
    (gives : GivesShares s.places.codes.now bytes s.table) where
  stands_first : s.count ≡ 0 → Stands s h names [] []
  stands_first none = record {
    places = enough.places;
    laid = laid;
    shares = λ code place c low there. (unset (share_of c.size), place_first s.places s.table bytes h.codes enough.places gives enough.bytes_fit code place c low there, omega arith);
    roles_are = λ i c there. (
      first (list_any (λ (k : Clock). k.code == i) s.clocks.now) (has_lines_in h names c),
      first_at h names old s.roles.now s.clocks.now enough.roles_are follows i
          ∙ ap (option_map (λ y. first (list_any (λ (k : Clock). k.code == i) s.clocks.now) (has_lines_in h names y))) there,
      role_first (in_places s.table c.size i) c (list_any (λ (k : Clock). k.code == i) s.clocks.now) (has_lines_in h names c) (value_first s.places s.table bytes h.codes enough.places gives enough.bytes_fit i c there),
    );
    many = many ∙ enough.roles_are.many;
    list = subst (AreListed s.roles.now s.listed.now) (sym none) (list_first h names old s.roles.now s.clocks.now enough.roles_are follows s.listed.now);
    room = enough.list_fits;
    id = enough.id_is;
    clocked = clocks_follow h.codes s.clocks.now old s.roles.now
        (λ i c there. (fresh (has_lines_in h names c), enough.roles_are.each i ∙ ap (option_map (λ y. fresh (has_lines_in h names y))) there)) follows ks enough.clocks_are;
  }

  no_edges : edges_in ks [] ≡ []
  unfolding edges_in
  no_edges = refl

  pub strobed_first : s.count ≡ 0 → s.edges ≡ 0 → s.last ≡ None → HasStrobed s (strobe_plan ks h names) h []
  strobed_first none zero_edges no_last = record {
    names = names;
    ks = ks;
    by_plan = refl;
    clocks = enough.clocks_are;
    edges = edges_as ks [] 0 s.edges None s.last zero_edges no_last (edges_none ks);
    stands = subst (λ es. Stands s h names es []) (sym no_edges) (stands_first none);
  }
