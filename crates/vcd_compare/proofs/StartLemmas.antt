-- How a run stands before the first item.
use Rattle.vcd_compare.proofs.Cited.{zero, ◌≡◌, ℕ, suc, ◌<◌, Bool, true, false, cond, List, [], ◌∷◌, length, filter, slice_get, Option, Some, None, refl, sym, ap, ◌∙◌, append-nil, arith, replicate, list_any, get_or-replicate, length-replicate, slice_get-get_or, IdCode, code_of, Header, Value, is_settled, state_at, Names, times_in, within_head, IsViewOf, HeadView, codes_len, AreHeld, model_asked, AreMarks, AreTriggers, Compares, flag_by, codes_differ, had_line, is_always, time_compared, ArePairs, Comparison, Watched, Pairs}
use Rattle.vcd_model.specs.Compare.{Asked as ModelAsked}
use Rattle.vcd_model.specs.Within.{within_open}
use Rattle.vcd_compare.specs.Lines.{flag_of}
use Rattle.vcd_compare.proofs.SkipLemmas.{skips_first}

-- ---- nothing is settled, and nothing differs

none_pass : (f : ℕ → Bool) (ts : List ℕ) → ((t : ℕ) → f t ≡ false) → filter f ts ≡ []
none_pass f [] none = refl
none_pass f (t ∷ ts) none = rw (none t, none_pass f ts none) refl

none_settled : (q : ModelAsked) → filter (is_settled []) (times_in q []) ≡ []
none_settled q = none_pass (is_settled []) (times_in q []) (λ t. refl)

no_state : (c : IdCode) (t : ℕ) → state_at 1 [] c t ≡ None
no_state c t = by_event c.event
  where
    by_event : (e : Bool) → ◌≡◌ {A = Option Value} (cond e None None) None
    by_event true = refl
    by_event false = refl

no_flag : (q : ModelAsked) (a b : IdCode) → flag_of q [] a b ≡ 0
unfolding flag_of
no_flag q a b =
    let same : codes_differ q.rule [] a b (time_compared q []) ≡ false = rw (no_state a (time_compared q []), no_state b (time_compared q [])) refl in
    let none : had_line q [] a b ≡ false = ap (list_any (codes_differ q.rule [] a b)) (none_settled q) in
    rw (same, none) (by_extent (is_always q.extent))
  where
    by_extent : (b : Bool) → ◌≡◌ {A = ℕ} (cond b 0 0) 0
    by_extent true = refl
    by_extent false = refl

-- ---- lists of the same item

same_there : {A : Type 0} (n k : ℕ) (x : A) → k < n → slice_get (replicate n x) k ≡ Some x
same_there n k x low = let many : length (replicate n x) ≡ n = length-replicate n x in slice_get-get_or (replicate n x) k x (omega arith) ∙ ap (λ y. Some y) (get_or-replicate n k x x low)

marks_first : (ps : Pairs) (h : Header) (q : ModelAsked) → AreMarks ps h q [] (replicate ps.classes 0)
marks_first ps h q = record {
  many = length-replicate ps.classes 0;
  each = λ class p below is.
      no_flag q (code_of p.one) (code_of p.other)
      ∙ sym (ap (λ m. flag_by m (codes_differ q.rule [] (code_of p.one) (code_of p.other) (time_compared q []))) (get_or-replicate {A = ℕ} ps.classes class 0 0 below));
}

there_below : (cs : List IdCode) (index : ℕ) (c : IdCode) → slice_get cs index ≡ Some c → index < length cs
there_below [] index c at = cc
there_below (x ∷ cs) zero c at = omega arith
there_below (x ∷ cs) (suc index) c at = let low = there_below cs index c at in omega arith

triggers_first : (v : HeadView) (h : Header) → IsViewOf v h → AreTriggers (replicate (length v.codes.now) None) h []
triggers_first v h views index c at event =
    let low = there_below h.codes index c at in
    let many = codes_len v.text.now v.codes.now h.codes views.codes in
    (None, same_there (length v.codes.now) index None (omega arith), record { low = tt; is = λ t le. refl })

-- ---- a comparison

pub compares_first : (v : HeadView) (h : Header) (exceptions : List (List ℕ)) (ns : List Names) (c : Comparison) (w : Watched) → IsViewOf v h
    → ArePairs c.current.pairs.now h (model_asked c.current.asked exceptions) ns → AreHeld c.current.table h []
    → c.current.view ≡ v → c.current.triggers.now ≡ replicate (length v.codes.now) None → c.touched.marks.now ≡ replicate c.current.pairs.now.classes 0
    → c.skips.now ≡ replicate (length c.current.pairs.now.ends.items) 0 → w.at ≡ c.current.asked.from → Compares h exceptions ns [] c w
compares_first v h exceptions ns c w views pairs held view triggers marks skips at = record {
  pairs = pairs;
  current = record { views = rw view views; held = held; triggers = rw triggers (triggers_first v h views) };
  flags = rw marks (marks_first c.current.pairs.now h (model_asked c.current.asked exceptions));
  skips = rw skips (skips_first c.current.pairs.now.ends.items c.current.pairs.now.last.items c.touched.marks.now pairs.linked);
  at = at;
  up = tt;
  quiet = λ first. let q = model_asked c.current.asked exceptions in rw (none_settled q) refl;
  on = refl;
}

-- what is written before the first item
pub open_first : (q : ModelAsked) (h : Header) (ns : List Names) → within_open q h ns [] ≡ within_head q h ns
unfolding within_open
open_first q h ns = rw (none_settled q) (append-nil (within_head q h ns))
