-- Two strobes with the same values before their edges have the same lines of codes.
use Rattle.vcd_laws.proofs.Cited.{◌≡◌, ℕ, zero, suc, List, [], ◌∷◌, take, Option, Some, None, refl, sym, ap, ◌∙◌, last_or}
use Rattle.std.specs.Prelude.{slice_get}
use Rattle.vcd_model.specs.Declarations.{IdCode}
use Rattle.vcd_model.specs.Items.{BodyItem}
use Rattle.vcd_model.specs.Values.{Value}
use Rattle.vcd_model.specs.Strobe.{code_line, edges_in, last_sampled, sampled, strobe_codes}
use Rattle.vcd_laws.specs.Strobes.{SameStrobes, edges_before}
use Rattle.vcd_laws.proofs.QuietTimes.{flat_same}
use Rattle.vcd_laws.proofs.WrittenCodes.{to_contained}

-- an element has one before it, which is the last one that is taken
abbrev LastTaken : {X : Type 0} → List X → ℕ → Option X → Type 0
LastTaken xs k o = (x : _) × (slice_get xs k ≡ Some x) × (last_or o (take (suc k) xs) ≡ Some x)

last_taken : {X : Type 0} (xs : List X) (k : ℕ) (o : Option X) (y : X) → slice_get xs (suc k) ≡ Some y → LastTaken xs k o
last_taken [] k o y e = absurd (cc)
last_taken (x ∷ xs) zero o y e = (x, refl, refl)
last_taken (x ∷ xs) (suc k) o y e = last_taken xs k (Some x) y e

-- what a code had at an edge, if there is one
abbrev sampled_in : IdCode → Option (List BodyItem) → Option Value
sampled_in c o = elim o [ Some edge ↦ sampled edge c | None ↦ None ]

-- the values at the edge before are the same
same_last : (es fs : List (List BodyItem)) (c : IdCode) (k : ℕ) (e f : List BodyItem) → slice_get es k ≡ Some e → slice_get fs k ≡ Some f
    → ((j : ℕ) (x y : List BodyItem) → slice_get es j ≡ Some x → slice_get fs j ≡ Some y → sampled x c ≡ sampled y c)
    → last_sampled (take k es) c ≡ last_sampled (take k fs) c
same_last es fs c zero e f at_e at_f same = refl
same_last es fs c (suc k) e f at_e at_f same =
    let x = last_taken es k None e at_e in
    let y = last_taken fs k None f at_f in
    ap (sampled_in c) x.2 ∙ same k x.0 y.0 x.1 y.1 ∙ sym (ap (sampled_in c) y.2)

pub same_strobes : SameStrobes
same_strobes ks ls h names p q alike k e f at_e at_f =
    flat_same (code_line (edges_before ks p k) e) (code_line (edges_before ls q k) f) (strobe_codes h names) (λ c i.
    let here = alike k e f at_e at_f c (to_contained (strobe_codes h names) c i) in
    let last = same_last (edges_in ks p) (edges_in ls q) c k e f at_e at_f (λ j x y at_x at_y. (alike j x y at_x at_y c (to_contained (strobe_codes h names) c i)).0) in
    rw (last, here.0, here.1) refl)
