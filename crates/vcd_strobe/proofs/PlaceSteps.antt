-- A value that is set in a place that is not needed.
use Rattle.std.proofs.Common.{◌≡◌, ◌≢◌, ◌⊎◌, inl, inr, ℕ, ◌<◌, ◌≤◌, ◌==◌, ◌||◌, Bool, true, false, cond, List, slice_get, unwrap_or, option_map, Option, Some, refl, sym, ap, subst, ◌∙◌, arith}
use Rattle.std.proofs.lemmas.Bool.{cases_eq, eqb-false, ne_eqb, or_parts}
use Rattle.vcd_model.specs.Declarations.{IdCode}
use Rattle.vcd_model.specs.Header.{Header}
use Rattle.vcd_model.specs.Items.{BodyItem, time_after}
use Rattle.vcd_model.specs.Values.{Value, value_with}
use Rattle.vcd_view.specs.declared.view.Code.{Code}
use Rattle.vcd_body.specs.Contents.{ChangesCode, GivesValue, SetsCode, held_at, kept_at}
use Rattle.vcd_body.specs.Given.{IsText}
use Rattle.vcd_body.specs.Items.{model_form}
use Rattle.vcd_body.specs.Kept.{Held, Kept, value_at_size, with_text}
use Rattle.vcd_body.specs.Stored.{share_of}
use Rattle.vcd_body.specs.declared.item.Form.{Form}
use Rattle.vcd_strobe.specs.Kept.{IsRole}
use Rattle.vcd_strobe.specs.Lines.{in_places, place_of}
use Rattle.vcd_strobe.specs.Roles.{is_at, needs}
use Rattle.vcd_strobe.specs.Strobes.{HasShares, Stands, has_lines_in}
use Rattle.vcd_strobe.specs.declared.role.Role.{Role}
use Rattle.vcd_strobe.specs.declared.whole.Strobe.{Strobe}

-- a role by other values, which are the same in the places that it needs
pub role_by : (at at' : ℕ → Option Value) (es : List (List BodyItem)) (items : List BodyItem) (c : IdCode) (lines : Bool) (r : Role)
    → at' r.now ≡ at r.now → at' r.before ≡ at r.before → at' r.written ≡ at r.written → IsRole at es items c lines r → IsRole at' es items c lines r
role_by at at' es items c lines r now before written is = record {
  within = is.within;
  low = is.low;
  lines_are = is.lines_are;
  values = λ e w. let v = is.values e w in record {
    now_is = now ∙ v.now_is;
    settled_is = by_test (is_at r.since (time_after items)) ∙ v.settled_is;
    written_is = λ h. written ∙ v.written_is h;
    idle = v.idle;
    full = v.full;
    fresh = v.fresh;
  };
  triggers = is.triggers;
}
  where
    by_test : (b : Bool) → at' (cond b r.before r.now) ≡ at (cond b r.before r.now)
    by_test true = before
    by_test false = now

module _ (s s' : Strobe) (h : Header) (names : List (List ℕ)) (es : List (List BodyItem)) (items : List BodyItem) (has : Stands s h names es items)
    (code place index : ℕ) (few : place < 4) (index_is : index ≡ place_of code place) (a : IdCode) (declared : slice_get h.codes code ≡ Some a)
    (form : Form) (text : List ℕ)
    (sets : SetsCode index (with_text form text) s.table s'.table) (unneeded : (r : Role) → slice_get s.roles.now code ≡ Some r
    → needs r place ≡ false) (same : s' ≡ record s { table = s'.table }) where
  changes : ChangesCode index (with_text form text) s.table s'.table
  changes = sets.changes has.laid

  held_still : (i p : ℕ) → place_of i p ≢ index → (size : ℕ) → in_places s'.table size i p ≡ in_places s.table size i p
  held_still i p apart size =
      let kept : kept_at s'.table (place_of i p) ≡ kept_at s.table (place_of i p) = changes (place_of i p)
      ∙ ap (λ b. cond b (option_map (with_text form text) (kept_at s.table (place_of i p))) (kept_at s.table (place_of i p)))
      (ne_eqb (place_of i p) index apart) in
      ap (λ (o : Option Kept). value_at_size size (unwrap_or (option_map (λ (k : Kept). k.held) o) Held.Unset)) kept

  -- a place of another code, or another place
  another : (i p : ℕ) → p < 4 → (i ≢ code) ⊎ (p ≢ place) → place_of i p ≢ index
  another i p lt (inl apart) e = apart (omega (arith, e, index_is, lt, few))
  another i p lt (inr apart) e = apart (omega (arith, e, index_is, lt, few))

  parts : (r : Role) → needs r place ≡ false → (r.now ≢ place) × (r.before ≢ place) × (r.written ≢ place)
  parts r e =
      let last = or_parts (place == r.now || place == r.before) (place == r.written) e in
      let first = or_parts (place == r.now) (place == r.before) last.0 in
      ((λ f. eqb-false place r.now first.0 (sym f)), (λ f. eqb-false place r.before first.1 (sym f)), (λ f. eqb-false place r.written last.1 (sym f)))

  role_stays : (i : ℕ) (c : IdCode) → slice_get h.codes i ≡ Some c → (r : Role) × (slice_get s.roles.now i ≡ Some r)
      × IsRole (in_places s'.table c.size i) es items c (has_lines_in h names c) r
  role_stays i c there =
      let r = has.roles_are i c there in
      let w = r.2.within in
      (r.0, r.1, by_place (cases_eq i code) r.0 r.1 r.2)
    where
      by_place : (i ≡ code) ⊎ (i ≢ code) → (r : Role) → slice_get s.roles.now i ≡ Some r
          → IsRole (in_places s.table c.size i) es items c (has_lines_in h names c) r
          → IsRole (in_places s'.table c.size i) es items c (has_lines_in h names c) r
      by_place (inl e) r at is =
          let n = parts r (unneeded r (ap (slice_get s.roles.now) (sym e) ∙ at)) in
          role_by (in_places s.table c.size i) (in_places s'.table c.size i) es items c (has_lines_in h names c) r
          (held_still i r.now (another i r.now is.within.now (inr n.0)) c.size)
          (held_still i r.before (another i r.before is.within.before (inr n.1)) c.size)
          (held_still i r.written (another i r.written is.within.written (inr n.2)) c.size) is
      by_place (inr apart) r at is =
          role_by (in_places s.table c.size i) (in_places s'.table c.size i) es items c (has_lines_in h names c) r
          (held_still i r.now (another i r.now is.within.now (inl apart)) c.size)
          (held_still i r.before (another i r.before is.within.before (inl apart)) c.size)
          (held_still i r.written (another i r.written is.within.written (inl apart)) c.size) is

  shares_stay : HasShares s'.table h.codes
  shares_stay i p c lt there =
      let k = has.shares i p c lt there in
      by_test k.0 k.1 k.2 (place_of i p == index) refl
    where
      by_test : (k : Kept) → kept_at s.table (place_of i p) ≡ Some k → share_of c.size ≤ k.room → (b : Bool) → (place_of i p == index) ≡ b
          → (k' : Kept) × (kept_at s'.table (place_of i p) ≡ Some k') × (share_of c.size ≤ k'.room)
      by_test k was enough true e = (with_text form text k, changes (place_of i p) ∙ rw (e, was) refl, enough)
      by_test k was enough false e = (k, changes (place_of i p) ∙ rw e was, enough)

  pub stands_placed : Stands s' h names es items
  stands_placed = rw same (record {
    places = has.places;
    laid = sets.keeps.laid has.laid;
    shares = shares_stay;
    roles_are = role_stays;
    many = has.many;
    list = has.list;
    room = has.room;
    id = has.id;
    clocked = has.clocked;
  })

  -- what it has then
  pub value_placed : (c : Code) → IsText form c text → c.event ≡ false → c.size ≡ a.size → GivesValue form text index s.table s'.table
      → in_places s'.table a.size code place ≡ Some (value_with a.size (model_form form) text)
  value_placed c good event size gives =
      let k = has.shares code place a few declared in
      let enough = k.2 in
      let value = gives c k.0 good event (ap (kept_at s.table) index_is ∙ k.1) (omega (arith, ap share_of size, enough)) in
      subst (λ n. in_places s'.table n code place ≡ Some (value_with n (model_form form) text)) size
      (subst (λ i. value_at_size c.size (held_at s'.table i) ≡ Some (value_with c.size (model_form form) text)) index_is value)
