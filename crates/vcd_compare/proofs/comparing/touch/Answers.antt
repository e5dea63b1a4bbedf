use Rattle.vcd_compare.proofs.Cited.{◌≡◌, ◌≤◌, ◌/◌, min, ℕ, suc, List, Some, length, slice_get, refl, sym, ap, subst, ◌∙◌, arith, unwrap_or, AreSkips, AreTouched, IsEarlierEnd, AreListed, touched, End}
use Rattle.vcd_compare.proofs.Facts.{next_is, skips_stay, touched_first, touched_done, touched_many, touched_on}
use Rattle.std.proofs.Common.{zero}
use Rattle.vcd_compare.proofs.comparing.touch.Goals as goal

none_left : (n : ℕ) → (1 ≤ n → ⊥) → n ≡ 0
none_left zero no_more = refl
none_left (suc n) no_more = absurd (no_more (omega arith))

pub ends-init : goal.ends-init
ends-init c = record {
  listed = c.requires;
  many = refl;
  touches = λ linked within skips. (
    touched_first c.args.pairs.now.ends.items c.args.code c.args.pairs.now.last.items c.args.touched.now.marks.now c.last_end-left.result linked within
        (c.last_end-left.ensures ∙ ap (λ (l : List ℕ). unwrap_or (slice_get l c.args.code) 0) c.deref.ensures.value),
    skips,
  );
}

pub ends-preserved : goal.ends-preserved
ends-preserved c = record {
  listed = subst (λ (l : List ℕ). AreListed l c.add.new.self.classes.now c.add.new.self.listed) (sym c.earlier_end.ensures.same) c.add.ensures.listed;
  many = ap (λ (l : List ℕ). length l) (c.earlier_end.ensures.same ∙ c.add.ensures.marks) ∙ touched_many c.ends.touched.marks.now (c.in-Some.index / 2) ∙ c.ends.invariant.many;
  touches = λ linked within skips.
      let ends = c.args.pairs.now.ends.items in
      let code = c.args.code in
      let old = c.args.touched.now.marks.now in
      let was = c.ends.touched.marks.now in
      let now = c.add.new.self.marks.now in
      let i = c.in-Some.index in
      let e = c.in-Some-end_at.end in
      let left : c.ends.left ≡ suc i = omega (arith, c.in-Some.ensures.0, c.in-Some.ensures.1) in
      let there : slice_get ends i ≡ Some e = sym (c.in-Some-end_at.ensures ∙ ap (λ (l : List End). slice_get l i) c.deref-in-Some.ensures.value) in
      let known = c.ends.invariant.touches linked within skips in
      let so_far : AreTouched ends code (suc i) old was = subst (λ low. AreTouched ends code low old was) left known.0 in
      let own : e.code ≡ code = so_far.next i e refl there in
      let marks : now ≡ touched (i / 2) was = c.add.ensures.marks in
      let right : AreSkips ends now c.ends.skips = subst (λ (l : List ℕ). AreSkips ends l c.ends.skips) (sym marks)
      (skips_stay ends was (touched (i / 2) was) c.ends.skips (touched_done was (i / 2)) known.1) in
      let low = c.earlier_end.result in
      let next : IsEarlierEnd ends now i e.code low = subst (λ (l : List End). AreSkips l now c.ends.skips → slice_get l i ≡ Some e → IsEarlierEnd l now i e.code low)
      c.deref-in-Some-2.ensures.value c.earlier_end.ensures.next right there in
      let on = touched_on ends code old was i e there own so_far low (subst (λ (l : List ℕ). IsEarlierEnd ends l i e.code low) marks next) in (
        subst (λ (m : ℕ). AreTouched ends code m old c.earlier_end.new.marks) (sym c.min-left.ensures)
            (subst (AreTouched ends code (min low i) old) (sym (c.earlier_end.ensures.same ∙ marks)) on),
        subst (λ (l : List ℕ). AreSkips ends l c.earlier_end.new.skips) (sym c.earlier_end.ensures.same)
            (subst (λ (l : List End). AreSkips l now c.ends.skips → slice_get l i ≡ Some e → AreSkips l now c.earlier_end.new.skips)
            c.deref-in-Some-2.ensures.value c.earlier_end.ensures.skips right there),
      );
}

pub returns-then-end-eq0-clause-many : goal.returns-then-end-eq0-clause-many
returns-then-end-eq0-clause-many c = ap (λ (l : List ℕ). length l) c.add.ensures.marks ∙ touched_many c.ends.touched.marks.now (c.in-Some.index / 2) ∙ c.ends.invariant.many

pub returns-clause-touches : goal.returns-clause-touches
returns-clause-touches c = λ linked within skips.
    let known = c.ends.invariant.touches linked within skips in
    (subst (λ low. AreTouched c.args.pairs.now.ends.items c.args.code low c.args.touched.now.marks.now c.ends.touched.marks.now) (none_left c.ends.left c.in_default.ensures) known.0, known.1)

pub returns-then-end-eq0-clause-touches : goal.returns-then-end-eq0-clause-touches
returns-then-end-eq0-clause-touches c = λ linked within skips.
    let ends = c.args.pairs.now.ends.items in
    let code = c.args.code in
    let old = c.args.touched.now.marks.now in
    let was = c.ends.touched.marks.now in
    let i = c.in-Some.index in
    let e = c.in-Some-end_at.end in
    let left : c.ends.left ≡ suc i = omega (arith, c.in-Some.ensures.0, c.in-Some.ensures.1) in
    let there : slice_get ends i ≡ Some e = sym (c.in-Some-end_at.ensures ∙ ap (λ (l : List End). slice_get l i) c.deref-in-Some.ensures.value) in
    let known = c.ends.invariant.touches linked within skips in
    let so_far : AreTouched ends code (suc i) old was = subst (λ low. AreTouched ends code low old was) left known.0 in
    let own : e.code ≡ code = so_far.next i e refl there in
    let right : AreSkips ends (touched (i / 2) was) c.ends.skips = skips_stay ends was (touched (i / 2) was) c.ends.skips (touched_done was (i / 2)) known.1 in
    let next : IsEarlierEnd ends (touched (i / 2) was) i e.code 0 = next_is ends (touched (i / 2) was) c.ends.skips right i e there 0 (omega (arith, c.if-end-eq0.true)) in
    let on = touched_on ends code old was i e there own so_far 0 next in
    let all : AreTouched ends code 0 old (touched (i / 2) was) = subst (λ (low : ℕ). AreTouched ends code low old (touched (i / 2) was)) {x = min 0 i} (omega arith) on in
    subst (λ (l : List ℕ). AreTouched ends code 0 old l × AreSkips ends l c.ends.skips) (sym c.add.ensures.marks) (all, right)
