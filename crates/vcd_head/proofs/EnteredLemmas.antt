-- The code of a variable, whose key is inserted.
use Rattle.vcd_head.proofs.Cited.{◌≡◌, ℕ, Bool, true, false, List, [], ◌∷◌, ◌++◌, length, find, None, Option, Some, option_map, unwrap_or, slice_get, refl, sym, ap, subst, ◌∙◌, Declaration, IdCode, Variable, code_of, codes_of, has_text, Finds, Code, AreBytes, AreHeld, IsSize, Codes, Rises, is_declared_as, is_of, keys_of, HasCodes, IsEntered, AddsKey, HasKey, AreKeysOf}
use Rattle.vcd_head.proofs.CodeKeys.{finds_entered, len_of, none_entered}
use Rattle.vcd_model.specs.HeaderChecks.{agrees as agrees_with}
use Rattle.vcd_view.proofs.RowLemmas.{code_at}
use Rattle.vcd_head.proofs.DraftCodes.{agrees_at, agrees_new, found_is, held_alias, held_new}

module _ (text : List ℕ) (before after : Codes) (ds : List Declaration) (v : Variable) (bytes : List ℕ) (size : ℕ) (event : Bool) (position : ℕ)
    (h : HasCodes text before ds) (is : code_of v ≡ record { text = bytes; size = size; event = event })
    (are : AreBytes bytes) where
  -- a new one, whose bytes are put to the text
  pub entered_new : (new : List ℕ) → IsSize size → Rises after.rising.items → AddsKey bytes (keys_of before) (keys_of after) position
      → new ≡ text ++ bytes → after.list.items ≡ before.list.items ++
      (record { start = length text; len = length bytes; size = size; event = event }) ∷ [] → IsEntered text new after ds v (Some position)
  entered_new new is_size rises adds grown listed =
      let cs = codes_of ds in
      let same : bytes ≡ v.code = ap (λ (k : IdCode). k.text) (sym is) in
      let none : find (has_text v.code) cs ≡ None = subst (λ t. find (has_text t) cs ≡ None) same (none_entered bytes are (keys_of before) cs h.held.texts h.keys adds.absent) in
      let code : Code = record { start = length text; len = length bytes; size = size; event = event } in (
        agrees_new text before ds v h none,
        held_new text new before after ds v bytes adds.key code position h adds.own are none same
            (subst IsSize (ap (λ (k : IdCode). k.size) (sym is)) is_size)
            (λ j. record { start = length text; len = length bytes; size = (sym is j).size; event = (sym is j).event }) grown
            (adds.last ∙ len_of bytes are (keys_of before) cs h.keys) listed adds.behind rises,
      )

  module _ (rises : Rises after.rising.items) (has : HasKey bytes (keys_of before) (keys_of after) position) (list : after.list.items ≡ before.list.items) where
    still : HasCodes text after ds
    still = record {
      held = subst (λ l. AreHeld text l (codes_of ds)) (sym list) h.held;
      keys = subst (λ k. AreKeysOf k (codes_of ds)) (sym has.same) h.keys;
      rises = rises;
      known = h.known;
      seen = h.seen;
      sizes = h.sizes;
    }

    finds : Finds (codes_of ds) v.code (Some position)
    finds = subst (λ t. Finds (codes_of ds) t (Some position)) (ap (λ (k : IdCode). k.text) (sym is))
        (finds_entered bytes are (keys_of before) (codes_of ds) position h.held.texts h.keys has.at has.within)

    -- one that is there is listed
    there : (code : Code) × (slice_get before.list.items position ≡ Some code)
    there = let f = finds in let c = code_at text before.list.items (codes_of ds) position f.0 h.held.stand f.1 in (c.0, c.1)

    -- with what it was declared as
    declared_as : is_of there.0 size event ≡ is_declared_as before.list.items position size event
    declared_as = sym (ap (λ (o : Option Code). unwrap_or (option_map (λ (c : Code). is_of c size event) o) false) there.1)

    agrees : agrees_with ds v ≡ is_declared_as before.list.items position size event
    agrees = agrees_at text before ds v bytes size event position there.0 h is finds there.1 ∙ declared_as

    -- and is the variable's
    pub entered_known : is_declared_as before.list.items position size event ≡ true → IsEntered text text after ds v (Some position)
    entered_known e =
        let f = finds in
        let k = ap Some (found_is text before ds v bytes size event position there.0 h is f there.1 (declared_as ∙ e)) in
        (agrees ∙ e, held_alias text after ds v position still (f.1 ∙ k) (f.2 ∙ k))

    -- or differs from it
    pub entered_other : is_declared_as before.list.items position size event ≡ false → IsEntered text text after ds v None
    entered_other e = (agrees ∙ e, refl, still)
