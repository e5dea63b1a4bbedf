-- Whether there was an edge, by the number that a strobe has in the end.
use Rattle.std.proofs.Common.{◌≡◌, ◌∙◌, ◌++◌, ◌∷◌, [], Err, List, Ok, Result, ap, append-nil, arith, length, refl, sym, ℕ}
use Rattle.std.proofs.lemmas.List.{append_cancel_left}
use Rattle.std.specs.List.{concat}
use Rattle.std.specs.Prelude.{◌↔◌}
use Rattle.vcd_model.specs.Backward.{each}
use Rattle.vcd_model.specs.Header.{Header}
use Rattle.vcd_model.specs.Items.{BodyItem}
use Rattle.vcd_model.specs.Strobe.{Clock as ModelClock, edge_text, edges_in, strobe_head, strobe_open}
use Rattle.vcd_model.specs.Input.{Input}
use Rattle.vcd_model.specs.Tokens.{Token}
use Rattle.vcd_text.specs.Device.{Device}
use Rattle.vcd_body.specs.declared.answer.Done.{Done}
use Rattle.vcd_body.specs.declared.answer.Done.TheVariants.{Early, Whole}
use Rattle.vcd_body.specs.declared.answer.Stop.{Stop}
use Rattle.vcd_body.specs.declared.answer.Stop.TheVariants.{Dump, Read, Write, Unmatched}
use Rattle.vcd_run.specs.Plan.{Plan}
use Rattle.vcd_run.specs.Run.{BodyGives}
use Rattle.vcd_strobe.specs.Strobes.{strobe_plan}

module _ (ks ls : List ModelClock) (h : Header) (names others : List (List ℕ)) (same : strobe_plan ks h names ≡ strobe_plan ls h others) where
  first : (ks : List ModelClock) (names : List (List ℕ)) → strobe_open ks h names [] ≡ strobe_head h names
  unfolding strobe_open edges_in
  first ks names = append-nil (strobe_head h names)

  heads : strobe_head h names ≡ strobe_head h others
  heads = sym (first ks names) ∙ ap (λ (p : Plan). p.opens []) same ∙ first ls others

  no_text : (names : List (List ℕ)) (edges : List (List BodyItem)) → concat (each (edge_text h names) edges) ≡ [] → edges ≡ []
  unfolding edge_text
  no_text names [] e = refl
  no_text names (edge ∷ edges) e = cc

  opened : (ks : List ModelClock) (names : List (List ℕ)) (items : List BodyItem)
      → strobe_open ks h names items ≡ strobe_head h names ++ concat (each (edge_text h names) (edges_in ks items))
  unfolding strobe_open
  opened ks names items = refl

  -- clocks by which the same is written have edges, or have none
  pub no_edges : (items : List BodyItem) → edges_in ls items ≡ [] → edges_in ks items ≡ []
  no_edges items none = no_text names (edges_in ks items) (append_cancel_left (strobe_head h names) (concat (each (edge_text h names) (edges_in ks items))) []
      (sym (opened ks names items) ∙ ap (λ (p : Plan). p.opens items) same ∙ opened ls others items
      ∙ ap (λ l. strobe_head h others ++ concat (each (edge_text h others) l)) none ∙ ap (λ l. l ++ []) (sym heads)))

no_length : {X : Type 0} (xs : List X) → length xs ≡ 0 → xs ≡ []
no_length [] e = refl
no_length (x ∷ xs) e = absurd (omega (arith, e))

pub edges_left : (ks ls : List ModelClock) (h : Header) (names others : List (List ℕ)) → strobe_plan ks h names ≡ strobe_plan ls h others → (n : ℕ) (items : List BodyItem)
    → n ≡ length (edges_in ls items) → n ≡ 0 ↔ edges_in ks items ≡ []
edges_left ks ls h names others same n items is = (
  λ zero. no_edges ks ls h names others same items (no_length (edges_in ls items) (sym is ∙ zero)),
  λ none. is ∙ ap length (no_edges ls ks h others names (sym same) items none),
)

-- what a run says of the items says more
pub told_more : (T U : List BodyItem → List ℕ → Type 0) → ((items : List BodyItem) (text : List ℕ) → T items text → U items text)
    → (p : Plan) (h : Header) (i : Input) (front : List Token) (limit read : ℕ) (out out' : Device) (r : Result Done Stop)
    → BodyGives T p h i front limit read out out' r → BodyGives U p h i front limit read out out' r
told_more T U more p h i front limit read out out' (Ok Whole) (items, has, on, written, told) = (items, has, on, written, more items (p.opens items ++ p.closes items) told)
told_more T U more p h i front limit read out out' (Ok Early) (items, begins, ends, written, told) = (items, begins, ends, written, more items (p.opens items) told)
told_more T U more p h i front limit read out out' (Err (Dump input line fault)) gives = gives
told_more T U more p h i front limit read out out' (Err (Read input)) gives = gives
told_more T U more p h i front limit read out out' (Err Write) gives = gives
told_more T U more p h i front limit read out out' (Err (Unmatched name)) gives = gives
