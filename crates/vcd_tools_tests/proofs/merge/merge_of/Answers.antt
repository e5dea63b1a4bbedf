use Rattle.std.proofs.Common.{◌≡◌, ◌∙◌, ℕ, ◌*◌, ◌/◌, ◌<◌, ◌≤◌, List, length, ap, sym, arith, rules}
use Rattle.std.proofs.lemmas.Nat.{mul-le}
use Rattle.std.proofs.Math.Nat.{mul-div_cancel_left}
use Rattle.vcd_merge.specs.MergeParts.{AreParts, part_len}
use Rattle.vcd_merge.proofs.MergeRoomLemmas.{merge_within}
use Rattle.vcd_merge.proofs.PartLemmas.{parts_same}
use Rattle.vcd_tools_tests.proofs.merge.merge_of.Goals as goal

part_is : (n size : ℕ) (xs : List ℕ) → 0 < n → length xs ≡ n * size → part_len n xs ≡ size
part_is n size xs some e = ap (λ m. m / n) e ∙ mul-div_cancel_left size {n = n} some

part_all : (n size : ℕ) (xs : List ℕ) → 0 < n → length xs ≡ n * size → n * part_len n xs ≡ length xs
part_all n size xs some e = ap (λ m. n * m) (part_is n size xs some e) ∙ sym e

parts_of : (n chunk : ℕ) (cs ts vs : List ℕ) → 0 < n → 0 < chunk → length cs ≡ n * chunk → length ts ≡ n * 64 → length vs ≡ n * 64 → AreParts n cs ts vs
parts_of n chunk cs ts vs some c ec et ev = record {
  chunks_are = part_all n chunk cs some ec;
  tokens_are = part_all n 64 ts some et;
  values_are = ev ∙ sym et;
  chunk_some = rw (part_is n chunk cs some ec) c;
  token_some = rw (part_is n 64 ts some et) (omega arith);
}

pub begin_all-requires : goal.begin_all-requires
begin_all-requires c =
    record {
      parts = parts_of (length c.args.texts.now) c.args.chunk _ _ _ (omega (arith, c.requires.texts)) (omega (arith, c.requires.chunk))
          (c.deref_mut.ensures.len ∙ c.in_ok-chunks.ensures.len) (c.deref_mut-2.ensures.len ∙ c.in_ok-tokens.ensures.len) (c.deref_mut-3.ensures.len ∙ c.in_ok-values.ensures.len);
    }

pub merge_as-answer-requires-clause-parts : goal.merge_as-answer-requires-clause-parts
merge_as-answer-requires-clause-parts c =
    let same = c.in_ok-heads.ensures.lengths in
    let many : length c.deref_mut-5.result.now ≡ length c.args.texts.now = search rules in
    let parts = parts_of (length c.args.texts.now) c.args.chunk _ _ _ (omega (arith, c.requires.texts)) (omega (arith, c.requires.chunk))
    (c.deref_mut.ensures.len ∙ c.in_ok-chunks.ensures.len) (c.deref_mut-2.ensures.len ∙ c.in_ok-tokens.ensures.len) (c.deref_mut-3.ensures.len ∙ c.in_ok-values.ensures.len) in
    parts_same (length c.args.texts.now) _ _ _ _ _ _ _ parts many same.chunks same.tokens same.values

pub merge_as-answer-requires-clause-bound : goal.merge_as-answer-requires-clause-bound
merge_as-answer-requires-clause-bound c =
    let n = length c.args.texts.now in
    let same = c.in_ok-heads.ensures.lengths in
    let some : 0 < n = omega (arith, c.requires.texts) in
    let many : length c.deref_mut-5.result.now ≡ n = search rules in
    let heads : length c.deref.result.now ≡ n = search rules in
    let lc : length c.begin_all.new.windows.chunks.now ≡ n * c.args.chunk = same.chunks ∙ c.deref_mut.ensures.len ∙ c.in_ok-chunks.ensures.len in
    let lt : length c.begin_all.new.windows.tokens.now ≡ n * 64 = same.tokens ∙ c.deref_mut-2.ensures.len ∙ c.in_ok-tokens.ensures.len in
    let lv : length c.begin_all.new.windows.values.now ≡ n * 64 = same.values ∙ c.deref_mut-3.ensures.len ∙ c.in_ok-values.ensures.len in
    let chunks : n * c.args.chunk ≤ n * 65536 = mul-le n c.args.chunk n 65536 (omega arith) c.requires.chunk.1 in
    rw (many, part_is n 64 c.begin_all.new.windows.tokens.now some lt)
    (merge_within 64 c.deref.result.now
    (record { chunk = length c.begin_all.new.windows.chunks.now; token = length c.begin_all.new.windows.tokens.now; value = length c.begin_all.new.windows.values.now })
    (rw heads (record { chunk = omega (arith, lc, chunks); token = omega (arith, lt); value = omega (arith, lv) })))
