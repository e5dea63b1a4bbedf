-- What an edge writes, and what it leaves.
use Rattle.std.proofs.Common.{◌≡◌, ℕ, ◌+◌, ◌≤◌, true, List, [], ◌∷◌, ◌++◌, length, take, cond, flat_map, refl, sym, ap, ap₂, subst, ◌∙◌, arith}
use Rattle.std.specs.List.{AllByRecursion}
use Rattle.std.specs.List.Sorted.{IsNonDecreasing, IsPermutation}
use Rattle.vcd_model.specs.Header.{Header}
use Rattle.vcd_model.specs.Items.{BodyItem, time_after}
use Rattle.vcd_model.specs.Strobe.{code_line, edge_text, last_time, strobe_codes, time_code}
use Rattle.vcd_strobe.proofs.EdgeLemmas.{kept_listed, lines_are, settles_roles, sorted_listed, still_clocked, still_followed}
use Rattle.vcd_body.specs.Contents.{IsLaidOut, codes_shown}
use Rattle.vcd_body.specs.declared.values.table.Table.{Table}
use Rattle.vcd_strobe.specs.Codes.{AreRoles}
use Rattle.vcd_strobe.specs.Kept.{IsWithin}
use Rattle.vcd_strobe.specs.Lines.{ArePlaces, HaveRoles, in_places, line_at, line_with, moment_lines}
use Rattle.vcd_run.specs.Listed.{chosen, times}
use Rattle.vcd_strobe.specs.Listed.{SettlesEach, followed_at, listed_at}
use Rattle.vcd_strobe.specs.Strobes.{HasShares, SettlesListed, Stands, has_lines_in}
use Rattle.vcd_strobe.specs.declared.clocks.Clock.{Clock}
use Rattle.vcd_strobe.specs.declared.whole.Strobe.{Strobe}
use Rattle.vcd_strobe.proofs.LineSteps.{there_below}
use Rattle.std.proofs.lemmas.Option.{same_Some, slice_get_within}

pub edge_is : (h : Header) (names : List (List ℕ)) (es : List (List BodyItem)) (items : List BodyItem)
    → edge_text h names es items ≡ moment_lines (time_code h).text (1 + length es) (time_after items) ++ flat_map (code_line es items)
    (strobe_codes h names)
unfolding edge_text
edge_is h names es items = refl

module _ (s : Strobe) (h : Header) (names : List (List ℕ)) (es : List (List BodyItem)) (items : List BodyItem) (has : Stands s h names es items) (low : last_time es ≤ time_after items) where
  -- its moment
  pub moment_is : (id : List ℕ) (number t : ℕ) → id ≡ s.id.now → number ≡ 1 + length es → t ≡ time_after items
      → moment_lines id number t ≡ moment_lines (time_code h).text (1 + length es) (time_after items)
  moment_is id number t e f g = ap (λ i. moment_lines i number t) (e ∙ has.id) ∙ ap₂ (moment_lines (time_code h).text) f g

  -- all codes have roles
  pub have_roles : HaveRoles s.roles.now h.codes
  have_roles = record {
    many = has.many;
    within = λ code r there.
        let lt = slice_get_within s.roles.now code r there in
        let many = has.many in
        let c = there_below h.codes code (omega (arith, lt, many)) in
        let q = has.roles_are code c.0 c.1 in
        subst IsWithin (same_Some q.0 r (sym q.1 ∙ there)) q.2.within;
  }

  module _ (sorted : List ℕ) (moved : IsPermutation (take s.count s.listed.now) sorted) (up : IsNonDecreasing sorted) where
    in_order : ((i : ℕ) → times i sorted ≡ cond (listed_at s.roles.now i) 1 0) × (sorted ≡ chosen (listed_at s.roles.now) (length s.roles.now))
    in_order = sorted_listed s.roles.now s.listed.now sorted s.count has.list (let room = has.room in let many = has.many in omega (arith, room, many)) moved up

    -- its lines
    pub texts_are : (t : ℕ) → t ≡ time_after items → flat_map (line_at h.codes s.table s.roles.now t) sorted ≡ flat_map (code_line es items) (strobe_codes h names)
    texts_are t is =
        ap (λ u. flat_map (line_at h.codes s.table s.roles.now u) sorted) is
        ∙ ap (flat_map (line_at h.codes s.table s.roles.now (time_after items))) (in_order.1 ∙ ap (chosen (listed_at s.roles.now)) has.many)
        ∙ lines_are (λ c code place. in_places s.table c.size code place) (has_lines_in h names) h.codes es items s.roles.now has.roles_are low
        (line_at h.codes s.table s.roles.now (time_after items))
        (λ i c r there at. ap₂ (line_with s.table (time_after items) i) there at)

    -- what it leaves
    pub edge_stands : (s' : Strobe) (t : ℕ) → t ≡ time_after items → s'.places ≡ s.places → s'.table ≡ s.table → s'.id ≡ s.id → s'.clocks ≡ s.clocks
        → SettlesListed sorted t s.roles.now s'.roles.now s.listed.now s'.listed.now s'.count → Stands s' h names (es ++ items ∷ []) items
    edge_stands s' t is places table id clocks settles =
        let settled = subst (λ u. SettlesEach sorted u s.roles.now s'.roles.now) is settles.settles in
        record {
          places = subst (λ v. ArePlaces (codes_shown v) h.codes) (sym places) has.places;
          laid = subst IsLaidOut (sym table) has.laid;
          shares = subst (λ t. HasShares t h.codes) (sym table) has.shares;
          roles_are = subst (λ (t : Table). AreRoles (λ c code place. in_places t c.size code place) (has_lines_in h names) h.codes (es ++ items ∷ []) items s'.roles.now) (sym table)
              (settles_roles (λ c code place. in_places s.table c.size code place) (has_lines_in h names) h.codes es items s.roles.now has.roles_are low sorted s'.roles.now in_order.0 settled);
          many = settles.many ∙ has.many;
          list = kept_listed s.roles.now s'.roles.now sorted s'.listed.now (length sorted) s'.count (time_after items) in_order.0 settled settles.within settles.kept;
          room = (let room = has.room in let long = settles.long in omega (arith, room, long));
          id = ap (λ (b : _). b.now) id ∙ has.id;
          clocked = subst (λ (b : _). AllByRecursion (λ (k : Clock). followed_at s'.roles.now k.code ≡ true) b.now) (sym clocks)
              (still_clocked s.roles.now s'.roles.now (still_followed sorted (time_after items) s.roles.now s'.roles.now settled) s.clocks.now has.clocked);
        }
