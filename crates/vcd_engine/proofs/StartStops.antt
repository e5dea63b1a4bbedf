-- What a run leaves that stops at its begin.
use Rattle.vcd_engine.proofs.Cited.{◌≡◌, ℕ, inl, List, [], take, Err, refl, sym, ap, subst, ◌∙◌, Input, Token, stream_of, due_after, Header, Outcome, Opened, Request, over_dump, items_in, fault_in, open_text, HasGiven, limit_of, Nothing, Ghosts, Feed, AppendsSome, appends-first, Device, Supply, Writes, StopsAtStart, Belongs, Follows, IsRefused, KeepsUp, Stop, Dump, Read, Write, Unmatched}
use Rattle.vcd_model.specs.Outcome.{body_of}
use Rattle.vcd_engine.proofs.BodyOutcomes.{over_matched, over_unmatched}
use Rattle.vcd_engine.proofs.RunLemmas.{opens_first}

-- a run whose engine was not begun
pub never_begun : {X : Type 0} {g : Ghosts X} (t : Request) (limit : ℕ) (i : Input) (front : List Token) (h : Header) (name : List ℕ) (chunk : ℕ)
    (before : Supply) (out out' : Device) (f : Feed X g) (stop : Stop) → limit_of f ≡ limit → HasGiven i front f → StopsAtStart t h out out' stop
    → Follows t limit chunk i front h name before before out out' (Err stop)
unfolding body_of
never_begun t limit i front h name chunk before out out' f stop l st starts = record {
  left = i;
  is_left = inl (refl, refl);
  rest = st.given_first.0;
  tokens = ap (λ n. (stream_of n i).tokens) (sym l) ∙ st.given_first.1;
  belongs = by_stop stop starts;
  read = Nothing refl;
  keeps_up = by_text stop starts;
  early = tt;
  refused = by_refusal stop starts;
}
  where
    o : Opened
    o = record { header = h; stream = stream_of limit i; rest = st.given_first.0 }

    by_text : (s : Stop) → StopsAtStart t h out out' s → KeepsUp (due_after t h) limit chunk i front before before out out'
    by_text Write b = (take b.1.0.0 (open_text t h []), b.1.0.1, Nothing refl)
    by_text (Unmatched place) b = ([], b.1.0, Nothing refl)
    by_text (Dump input line fault) b = absurd b
    by_text (Read input) b = absurd b

    by_refusal : (s : Stop) → StopsAtStart t h out out' s → IsRefused t h s
    by_refusal Write b = tt
    by_refusal (Unmatched place) b = b.0
    by_refusal (Dump input line fault) b = absurd b
    by_refusal (Read input) b = absurd b

    by_stop : (s : Stop) → StopsAtStart t h out out' s → Belongs t (over_dump t name o) name out out' (Err s)
    by_stop Write b =
        let can = b.0 in
        let whole = opens_first t h (items_in o) name (fault_in o) can.valid in (
          subst (AppendsSome out.held out'.held) (sym (ap (λ (x : Outcome). x.output) (over_matched t name o can.body can.matched) ∙ whole.1))
              (appends-first out.held out'.held (open_text t h []) whole.0 b.1.0),
          b.1.1,
        )
    by_stop (Unmatched place) b = let e = over_unmatched t name o place b.0 in (e, subst (λ (x : Outcome). Writes out out' x.output) (sym e) b.1)
    by_stop (Dump input line fault) b = absurd b
    by_stop (Read input) b = absurd b
