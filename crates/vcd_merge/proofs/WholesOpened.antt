-- The outcome of a merge of wholes, by what they are after their headers.
use Rattle.vcd_merge.proofs.Cited.{◌≡◌, ℕ, List, [], ◌∷◌, map, slice_get, Some, Result, refl, sym, ap, subst, ◌∙◌, Header, Input, Dump, headers_of, Opened, merge_outcome, dumps_under, Device, Supply, ReadsAsNeeded, AreLeft, AreOpened, AreReadOnTurn, Belongs, Follows, settles_among, Lane, Done, Stop, get_mapped, same_Some}
use Rattle.vcd_model.specs.Outcome.{body_of}
use Rattle.vcd_model.proofs.MergeOutcome.{dump_under}
use Rattle.vcd_merge.proofs.MergeReads.{unmap}
use Rattle.vcd_merge.proofs.MergeWholes.{Whole, entire, opened_of, lanes_of, so_far, lefts_of, entire_of}

module _ (hs : List Header) (limit : ℕ) where
  opened_all : (ws : List (Whole hs limit)) → AreOpened limit (lanes_of hs limit ws) (lefts_of hs limit ws) (map (opened_of hs limit) ws)
  opened_all [] = refl
  opened_all (w ∷ ws) = (refl, w.has.tokens, opened_all ws)

  pub opened_headers : (ws : List (Whole hs limit)) → map (λ (o : Opened). o.header) (map (opened_of hs limit) ws) ≡ map (λ (l : Lane). l.header) (lanes_of hs limit ws)
  opened_headers [] = refl
  opened_headers (w ∷ ws) = ap (λ (l : List Header). w.lane.header ∷ l) (opened_headers ws)

  pub opened_dumps : (ws : List (Whole hs limit)) → map (dump_under hs) (map (opened_of hs limit) ws) ≡ entire_of hs limit ws
  unfolding dump_under body_of
  opened_dumps [] = refl
  opened_dumps (w ∷ ws) =
      ap (λ (x : Dump). x ∷ map (dump_under hs) (map (opened_of hs limit) ws)) (w.has.is ∙ ap (λ (h : Header). record { header = h; items = w.items; fault = w.fault }) w.same)
      ∙ ap (λ (l : List Dump). entire hs limit w ∷ l) (opened_dumps ws)

  pub entire_headers : (ws : List (Whole hs limit)) → headers_of (entire_of hs limit ws) ≡ headers_of (so_far hs limit ws)
  entire_headers [] = refl
  entire_headers (w ∷ ws) = ap (λ (l : List Header). w.dump.header ∷ l) (entire_headers ws)

  -- of each no more was read than what settles the merge
  abbrev pub AreNeeded : (chunk : ℕ) → List (Whole hs limit) → (olds news : List Supply) → Type 0
  AreNeeded chunk ws olds news = (k : ℕ) (w : Whole hs limit) (old new : Supply) → slice_get ws k ≡ Some w → slice_get olds k ≡ Some old → slice_get news k ≡ Some new
      → ReadsAsNeeded limit chunk old new w.left w.lane.front (settles_among (map (opened_of hs limit) ws) k w.lane.header)

  needed_all : (chunk : ℕ) (ws : List (Whole hs limit)) (olds news : List Supply) → AreNeeded chunk ws olds news
      → (k : ℕ) (l : Lane) (s t : Supply) (i : Input) → slice_get (lanes_of hs limit ws) k ≡ Some l → slice_get olds k ≡ Some s
      → slice_get news k ≡ Some t → slice_get (lefts_of hs limit ws) k ≡ Some i
      → ReadsAsNeeded limit chunk s t i l.front (settles_among (map (opened_of hs limit) ws) k l.header)
  needed_all chunk ws olds news needed k l s t i at_l at_s at_t at_i =
      let w = unmap (λ (w : Whole hs limit). w.lane) ws k l at_l in
      let left : Some w.0.left ≡ Some i = sym (get_mapped (λ (w : Whole hs limit). w.left) ws k w.0 w.1) ∙ at_i in
      subst (λ (j : Input). ReadsAsNeeded limit chunk s t j l.front (settles_among (map (opened_of hs limit) ws) k l.header)) (same_Some w.0.left i left)
      (subst (λ (m : Lane). ReadsAsNeeded limit chunk s t w.0.left m.front (settles_among (map (opened_of hs limit) ws) k m.header)) w.2 (needed k w.0 s t w.1 at_s at_t))

  -- a merge over them has the outcome of their dumps
  pub follows : (chunk : ℕ) (ws : List (Whole hs limit)) (lanes : List Lane) (names : List (List ℕ)) (olds news : List Supply) (begin new : Device)
      (result : Result Done Stop) → lanes_of hs limit ws ≡ lanes → map (λ (l : Lane). l.header) lanes ≡ hs
      → AreLeft limit chunk (lanes_of hs limit ws) olds news (lefts_of hs limit ws) → AreNeeded chunk ws olds news
      → AreReadOnTurn limit chunk hs (lanes_of hs limit ws) olds news (lefts_of hs limit ws) begin new
      → Belongs (merge_outcome names (entire_of hs limit ws)) names begin new result → Follows limit chunk lanes names olds news begin new result
  follows chunk ws lanes names olds news begin new result e headers left needed turns belongs =
      let dumps = dumps_under (map (opened_of hs limit) ws) hs (opened_headers ws ∙ ap (map (λ (l : Lane). l.header)) e ∙ headers) ∙ opened_dumps ws in
      subst (λ (ls : List Lane). Follows limit chunk ls names olds news begin new result) e (record {
        lefts = lefts_of hs limit ws;
        are_left = left;
        opened = map (opened_of hs limit) ws;
        are_opened = opened_all ws;
        needed = needed_all chunk ws olds news needed;
        on_turn = subst (λ (hs' : List Header). AreReadOnTurn limit chunk hs' (lanes_of hs limit ws) olds news (lefts_of hs limit ws) begin new)
            (sym (ap (map (λ (l : Lane). l.header)) e ∙ headers)) turns;
        belongs = subst (λ (ds : List Dump). Belongs (merge_outcome names ds) names begin new result) (sym dumps) belongs;
      })
