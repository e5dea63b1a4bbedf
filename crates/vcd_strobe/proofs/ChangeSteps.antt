-- A change of a code that is no event, step by step.
use Rattle.std.proofs.Common.{◌≡◌, ℕ, ◌<◌, false, true, List, length, slice_get, Option, Some, sym, ap, subst, ◌∙◌, arith}
use Rattle.std.proofs.lemmas.List.{length-map}
use Rattle.std.proofs.lemmas.Option.{same_Some}
use Rattle.std.specs.Char.{to_ascii_lowercase}
use Rattle.std.specs.List.{list_any}
use Rattle.std.specs.Str.{str_to_ascii_lowercase}
use Rattle.vcd_model.specs.Declarations.{IdCode}
use Rattle.vcd_model.specs.Header.{Header}
use Rattle.vcd_model.specs.Items.{BodyItem, Change}
use Rattle.vcd_model.specs.Strobe.{Clock as ModelClock, edges_in, is_turn}
use Rattle.vcd_model.specs.Values.{value_with}
use Rattle.vcd_view.specs.declared.view.Code.{Code}
use Rattle.vcd_body.proofs.CompareLemmas.{length_extended}
use Rattle.vcd_body.specs.Given.{IsText}
use Rattle.vcd_body.specs.Items.{model_form}
use Rattle.vcd_body.specs.declared.item.Form.{Form}
use Rattle.vcd_body.specs.declared.item.Form.TheVariants as form
use Rattle.vcd_strobe.proofs.TurnLemmas.{turn_is}
use Rattle.vcd_strobe.specs.Clocks.{AreClocks, turns_at}
use Rattle.vcd_strobe.specs.Kept.{IsFull}
use Rattle.vcd_strobe.specs.Lines.{in_places}
use Rattle.vcd_strobe.specs.Moments.{EdgesStand}
use Rattle.vcd_strobe.specs.Roles.{is_followed, needs}
use Rattle.vcd_strobe.specs.Strobes.{AreDistinct, HasStrobed, Stands}
use Rattle.vcd_strobe.specs.declared.role.Role.{Role}
use Rattle.vcd_strobe.specs.declared.whole.Strobe.{Strobe}

-- a text that a code may have gives it a full value
pub full_text : (f : Form) (c : Code) (text : List ℕ) (size : ℕ) → IsText f c text → c.event ≡ false → c.size ≡ size → 0 < size
    → IsFull size (Some (value_with size (model_form f) text))
full_text form.Scalar c text size (d, digit, is) event same some = let l = length_extended (str_to_ascii_lowercase text) size in
    let m = length-map text to_ascii_lowercase in let one : length text ≡ 1 = ap length is in omega (arith, l, m, one, some)
full_text form.Vector c text size (filled, digits, few) event same some = let l = length_extended (str_to_ascii_lowercase text) size in
    let m = length-map text to_ascii_lowercase in let most = few event in omega (arith, l, m, most, same)
full_text form.RealText c text size good event same some = tt

-- what a role that was read needs, another reading needs
pub unneeded_by : (roles : List Role) (code place : ℕ) (r : Role) → Some r ≡ slice_get roles code → needs r place ≡ false → (q : Role)
    → slice_get roles code ≡ Some q → needs q place ≡ false
unneeded_by roles code place r read none q there = subst (λ (x : Role). needs x place ≡ false) (same_Some r q (read ∙ there)) none

pub edges_as : (ks : List ModelClock) (items : List BodyItem) (n m : ℕ) (at other : Option ℕ) → m ≡ n → other ≡ at → EdgesStand ks items n at → EdgesStand ks items m other
edges_as ks items n m at other e f has = subst (λ k. EdgesStand ks items k other) (sym e) (subst (λ o. EdgesStand ks items n o) (sym f) has)

module _ (s s1 : Strobe) (p : _) (h : Header) (items : List BodyItem) (has : HasStrobed s p h items) (rest : s1 ≡ record s { table = s1.table })
    (code to : ℕ) (a : IdCode) (f : Form) (text : List ℕ) (c : Code) (r : Role) (read : Some r ≡ slice_get s.roles.now code)
    (declared : slice_get h.codes code ≡ Some a) (distinct : AreDistinct h.codes) (event : a.event ≡ false)
    (good : IsText f c text) (plain : c.event ≡ false) (size : c.size ≡ a.size) (some : 0 < a.size) (to_low : to < 4)
    (placed : Stands s1 h has.names (edges_in has.ks items) items)
    (value : in_places s1.table a.size code to ≡ Some (value_with a.size (model_form f) text)) where
  abbrev change : Change
  change = record { code = a; form = model_form f; text = text }

  its : (q : Role) → slice_get s1.roles.now code ≡ Some q → q ≡ r
  its q there = same_Some q r (sym there ∙ ap (λ (x : Strobe). slice_get x.roles.now code) rest ∙ sym read)

  pub from_low : r.now < 4
  from_low = let q = placed.roles_are code a declared in subst (λ (x : Role). x.now < 4) (its q.0 q.1) q.2.within.now

  pub edges_placed : EdgesStand has.ks items s1.edges s1.last
  edges_placed = subst (λ (x : Strobe). EdgesStand has.ks items x.edges x.last) (sym rest) has.edges

  pub clocks_placed : AreClocks h.codes s1.clocks.now has.ks
  clocks_placed = subst (λ (x : Strobe). AreClocks h.codes x.clocks.now has.ks) (sym rest) has.clocks

  pub turn_placed : is_followed r.wanted ≡ true → list_any (turns_at s1.places s1.table code r.now to) s1.clocks.now ≡ is_turn has.ks items (BodyItem.Changes change)
  turn_placed follows =
      let q = placed.roles_are code a declared in
      let v = q.2.values event (ap (λ (x : Role). is_followed x.wanted) (its q.0 q.1) ∙ follows) in
      let before = ap (λ (x : Role). in_places s1.table a.size code x.now) (sym (its q.0 q.1)) ∙ v.now_is in
      turn_is s1.places s1.table h.codes placed.places distinct items change code r.now to declared from_low to_low before value v.full
      (full_text f c text a.size good plain size some) s1.clocks.now has.ks clocks_placed
