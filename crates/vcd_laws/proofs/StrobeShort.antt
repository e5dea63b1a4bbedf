-- What a strobe writes has tokens no longer than the token limit, if the codes of its input are
-- shorter, and a time fits.
use Rattle.vcd_laws.proofs.Cited.{Bool, List, None, Option, Some, [], ap, arith, cond, false, flat_map, fold, inl, inr, length, map, max, refl, subst, suc, sym, true, ℕ, ◌++◌, ◌+◌, ◌<◌, ◌^◌, ◌∙◌, ◌∷◌, ◌≡◌, ◌≢◌, ◌≤◌, append-nil, map-append, AllByRecursion, byte, CodesFit, all_append, all_front, value_change, AreCodes, AreFit, behind, item_tokens, short_is_shortest, texts_from, IdCode, Header, BodyItem, Change, time_after, selected, selects_code, Value, short}
use Rattle.vcd_model.specs.Laws.{IsPrefixOf}
use Rattle.std.proofs.lemmas.List.{length-replicate}
use Rattle.vcd_model.specs.Strobe.{bare, binary, is_triggered, last_sampled, last_time, same_state, sampled, strobe_codes, strobe_head, time_code}
use Rattle.vcd_model.proofs.ShortLemmas.{extend-full}
use Rattle.vcd_model.proofs.FoundCodes.{same_declared}
use Rattle.vcd_laws.proofs.HeadersGood.{IsGoodHeader}
use Rattle.vcd_laws.proofs.MergedHead.{all_in}
use Rattle.vcd_laws.proofs.HeadBack.{marks, own_code}
use Rattle.vcd_laws.proofs.WrittenCodes.{In, from_filter, to_contained}
use Rattle.vcd_laws.proofs.ShortTokens.{AllShort}
use Rattle.vcd_laws.proofs.ShortHeads.{IsShortHeader, head_short, number_short, written_short}
use Rattle.vcd_laws.proofs.ShortBodies.{ShortItem, ShortValue, tokens-append, value_short, value_tokens_short}
use Rattle.vcd_laws.proofs.StrobeBase.{AllSteps, as_items, length_move, steps, steps_weaker}
use Rattle.vcd_laws.proofs.StrobeEdges.{IsEdgeOf, fit_such, sampled_good, sampled_such}
use Rattle.vcd_laws.proofs.StrobeChanges.{code_changes, edge_changes, event_change, set_change, time_change}
use Rattle.vcd_laws.proofs.StrobeFacts.{IsCode, edge_fit, own_codes, time_good}
use Rattle.vcd_laws.proofs.StrobeHead.{bare_parts, strobe_declared, strobe_rows, strobe_text}

-- the tokens of changes
abbrev tokens_in : List Change → List (List ℕ)
tokens_in ds = flat_map item_tokens (as_items ds)

longest_below : (limit : ℕ) (cs : List IdCode) (a : ℕ) → a < limit
    → ((c : IdCode) → In c cs → length c.text < limit)
    → fold max a (map (λ (c : IdCode). length c.text) cs) < limit
longest_below limit [] a l f = l
longest_below limit (c ∷ cs) a l f =
    let m = f c (inl refl) in
    longest_below limit cs (max a (length c.text)) (omega arith) (λ d i. f d (inr i))

module _ (limit : ℕ) (least : 65 ≤ limit) where
  enough : 64 ≤ limit
  enough = omega arith

  -- ---- steps

  abbrev pub IsShortStep : {X : Type 0} → (List X → X → List Change) → List X → X → Type 0
  IsShortStep f before x = AllShort limit (tokens_in (f before x))

  steps_short : {X : Type 0} (f : List X → X → List Change) (before xs : List X)
      → length before + length xs < 2 ^ 64 → AllSteps (IsShortStep f) before xs
      → AllShort limit (flat_map item_tokens (steps f before xs))
  steps_short f before [] few h = tt
  steps_short f before (x ∷ xs) few h =
      let n = number_short limit enough (suc (length before)) (omega arith) in
      let m = length_move before xs x in
      let rest = steps f (before ++ x ∷ []) xs in (
        (omega arith),
        subst (AllShort limit) (sym (tokens-append [] limit enough (as_items (f before x)) rest))
            (all_append (λ t. length t ≤ limit) (tokens_in (f before x)) (flat_map item_tokens rest)
            h.0 (steps_short f (before ++ x ∷ []) xs (omega arith) h.1)),
      )

  -- ---- the changes of an edge

  module _ (h : Header) (names : List (List ℕ)) (good : IsGoodHeader h) (found : AreCodes h.codes)
      (fits : CodesFit limit h) where
    time_code_short : length (time_code h).text ≤ limit
    time_code_short =
        let n = length-replicate (1 + fold max 0 (map (λ (c : IdCode). length c.text) h.codes))
        (byte "!") in
        let m = longest_below limit h.codes 0 (omega arith)
        (λ c i. fits c (to_contained h.codes c i)) in
        omega arith

    short_codes : AllByRecursion (λ c. length c.text < limit) (strobe_codes h names)
    short_codes = all_in (λ (c : IdCode). length c.text < limit) (strobe_codes h names)
        (λ c i. fits c (to_contained h.codes c
        (from_filter (selects_code (selected names h.declarations)) h.codes c i).0))

    some_digits : (ds : List ℕ) → 0 < length ds → ds ≢ []
    some_digits [] l = absurd (omega arith)
    some_digits (d ∷ ds) l = λ e. cc

    time_tokens : (ds : List ℕ) → length ds ≡ 64
        → AllShort limit (item_tokens (BodyItem.Changes (time_change h ds)))
    time_tokens ds e =
        let some = some_digits ds (omega arith) in
        let s = short_is_shortest ds some in
        let few = s.2 ds some (extend-full ds) in
        let own = time_code_short in
        ((omega arith), ((omega arith), tt))

    module _ (items : List BodyItem) (fit : AreFit h.codes 0 false items)
        (small : AllByRecursion (ShortItem limit) items) where
      edge_small : (edge : List BodyItem) → IsPrefixOf edge items
          → AllByRecursion (ShortItem limit) edge
      edge_small edge begins = all_front (ShortItem limit) edge begins.0
          (subst (AllByRecursion (ShortItem limit)) begins.1 small)

      value_small : (edge : List BodyItem) (c : IdCode) (v : Value) → IsPrefixOf edge items
          → IsCode h names c → c.event ≡ false → sampled edge c ≡ Some v
          → ShortValue h.codes limit enough v
      value_small edge c v begins code quiet e =
          sampled_such (ShortValue h.codes limit enough) c edge v
          (fit_such (ShortValue h.codes limit enough) c h.codes 0 false edge (ShortItem limit)
          (λ d is s same.
          let one : c ≡ d.code = same_declared h.codes c d.code code.declared is.declared same in
          let filled : 0 < d.code.size = subst (λ (x : IdCode). 0 < x.size) one code.filled in
          value_short h.codes limit enough d is
          (sym (ap (λ (x : IdCode). x.event) one) ∙ quiet) filled s)
          (edge_fit h names good found items fit edge begins) (edge_small edge begins)) e

      code_tokens : (before : List (List BodyItem)) (edge : List BodyItem) (c : IdCode)
          → IsEdgeOf items before edge → IsCode h names c → length c.text < limit
          → AllShort limit (tokens_in (code_changes before edge c))
      code_tokens before edge c is code low =
          by_event c.event (is_triggered edge c (last_time before) (time_after edge))
          (same_state (last_sampled before c) (sampled edge c)) refl
        where
          set : (o : Option Value) → c.event ≡ false → sampled edge c ≡ o
              → AllShort limit (tokens_in (set_change c o))
          set None quiet e = tt
          set (Some v) quiet e =
              let g = sampled_good h.codes c code.declared quiet code.filled edge v
              (edge_fit h names good found items fit edge is.within) e in
              subst (AllShort limit) (sym (append-nil (item_tokens
              (BodyItem.Changes (value_change c v)))))
              (value_tokens_short h.codes limit enough c v low g.1
              (value_small edge c v is.within code quiet e))

          by_event : (b t s : Bool) → c.event ≡ b
              → AllShort limit (tokens_in (cond b (cond t (event_change c ∷ []) [])
              (cond s [] (set_change c (sampled edge c)))))
          by_event true true s e = ((omega arith), tt)
          by_event true false s e = tt
          by_event false t true e = tt
          by_event false t false e = set (sampled edge c) e refl

      tokens_both : (xs ys : List Change) → AllShort limit (tokens_in xs)
          → AllShort limit (tokens_in ys) → AllShort limit (tokens_in (xs ++ ys))
      tokens_both xs ys a b =
          subst (AllShort limit) (sym (ap (flat_map item_tokens)
          (map-append (λ d. BodyItem.Changes d) xs ys)
          ∙ tokens-append [] limit enough (as_items xs) (as_items ys)))
          (all_append (λ t. length t ≤ limit) (tokens_in xs) (tokens_in ys) a b)

      codes_tokens : (before : List (List BodyItem)) (edge : List BodyItem) (cs : List IdCode)
          → IsEdgeOf items before edge → AllByRecursion (IsCode h names) cs
          → AllByRecursion (λ c. length c.text < limit) cs
          → AllShort limit (tokens_in (flat_map (code_changes before edge) cs))
      codes_tokens before edge [] is all low = tt
      codes_tokens before edge (c ∷ cs) is all low =
          tokens_both (code_changes before edge c) (flat_map (code_changes before edge) cs)
          (code_tokens before edge c is all.0 low.0) (codes_tokens before edge cs is all.1 low.1)

      edge_tokens : (before : List (List BodyItem)) (edge : List BodyItem)
          → IsEdgeOf items before edge → IsShortStep (edge_changes h names) before edge
      edge_tokens before edge is =
          let ds = binary 64 (time_after edge) in
          let g = time_good h (time_after edge) in
          all_append (λ t. length t ≤ limit) (item_tokens (BodyItem.Changes (time_change h ds)))
          (tokens_in (flat_map (code_changes before edge) (strobe_codes h names)))
          (time_tokens ds g.0)
          (codes_tokens before edge (strobe_codes h names) is (own_codes h names good found)
          short_codes)

      -- the tokens of all edges
      pub edges_short : (es : List (List BodyItem)) → length es < 2 ^ 64
          → AllSteps (IsEdgeOf items) [] es
          → AllShort limit (flat_map item_tokens (steps (edge_changes h names) [] es))
      edges_short es few are =
          steps_short (edge_changes h names) [] es (omega arith)
          (steps_weaker (IsEdgeOf items) (IsShortStep (edge_changes h names)) [] es edge_tokens are)

    -- ---- the head

    -- the tokens of a head, and of what follows it
    pub strobe_short : (text : List ℕ) → IsShortHeader limit h → AllShort limit (texts_from true text)
        → AllShort limit (texts_from true (strobe_head h names ++ text))
    strobe_short text short behind =
        let own = time_code_short in
        let rest = written_short own_code (marks names h.declarations) limit (λ code l. l)
        h.declarations short.declared in
        subst (λ (l : List ℕ). AllShort limit (texts_from true (l ++ text)))
        (sym (strobe_text h names))
        (head_short limit enough (bare h) (bare_parts h names good found) (strobe_rows h names) text
        (strobe_declared h names good found) ([], refl, tt, tt) ([], refl, tt, tt) (
          ((omega arith), (omega arith)),
          (((omega arith), own, ((omega arith), tt)), (tt, rest)),
        ) behind)
