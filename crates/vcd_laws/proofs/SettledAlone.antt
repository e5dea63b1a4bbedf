-- Inputs that are settled one by one settle their merge.
use Rattle.vcd_laws.proofs.Cited.{◌≡◌, ℕ, ◌+◌, true, is_some, List, [], ◌∷◌, ◌++◌, find, Option, Some, None, ◌⊎◌, inl, inr, refl, AllByRecursion, Token, Stream, Header, header_of, HeaderPhrase, BodyPhrase, header_grammar, read_body, Placed, phrases_of, Ending, Reading, reading_of, AtFault, AtEnd, AtLast, KeyedFault, factor, placed_is_too_large, allowed_after, Want, is_faulty, is_settled_at, Seen, SeenBody, SeenHeaders, tokens_seen, seen_before, seen_at, headers_seen, fault_met, dump_seen, is_at_its_end, are_past, settles_merge, Faulty, NotWhole, Whole, header_seen, is_settled_alone, AreSettledAlone, SettledAloneSettlesMerge}
use Rattle.vcd_model.specs.Merge.{dump_of}
use Rattle.vcd_model.specs.Job.{request_of}
use Rattle.vcd_model.specs.Settled.{is_settled}
use Rattle.vcd_model.specs.SettledMerge.{is_settled_merge}
use Rattle.vcd_laws.proofs.Settling.{merge_faulty}

-- all of an input is known, or its body has a fault
abbrev IsOver : SeenBody → Type 0
IsOver s = (is_some s.whole ≡ true) ⊎ (is_faulty (read_body s.header.codes s.rest).ending ≡ true)

-- then nothing more comes of it, whatever the other headers are
at_its_end : (hs : List Header) (s : SeenBody) → IsOver s → is_at_its_end s (dump_seen hs s) ≡ true
unfolding dump_of
at_its_end hs s (inl e) = rw e refl
at_its_end hs s (inr e) = by_whole s.whole refl
  where
    met : (x : Ending) → is_faulty x ≡ true → is_some (fault_met x) ≡ true
    met (AtFault f) e = refl
    met AtEnd e = cc
    met AtLast e = cc

    by_mark : (p : Option (Placed BodyPhrase))
        → is_some (elim p [
          | Some q ↦ Some (record { number = 20; line = q.line })
          | None ↦ fault_met (read_body s.header.codes s.rest).ending
        ]) ≡ true
    by_mark (Some q) = refl
    by_mark None = met (read_body s.header.codes s.rest).ending e

    by_whole : (w : Option Stream) → s.whole ≡ w → is_at_its_end s (dump_seen hs s) ≡ true
    by_whole (Some stream) f = rw f refl
    by_whole None f =
        rw f (by_mark (find (placed_is_too_large (factor hs s.header))
        (read_body s.header.codes s.rest).placed))

none_matters : (f : Option KeyedFault) (hs : List Header) (n : ℕ) (ss : List SeenBody)
    → AllByRecursion IsOver ss → are_past f hs n ss ≡ true
none_matters f hs n [] over = refl
none_matters f hs n (s ∷ ss) over =
    rw (at_its_end hs s over.0, none_matters f hs (n + 1) ss over.1) refl

-- the headers have a fault, or all are whole and their inputs over
abbrev AreOver : SeenHeaders → Type 0
AreOver Faulty = Unit {0}
AreOver NotWhole = ⊥
AreOver (Whole ss) = AllByRecursion IsOver ss

with_one : (s : SeenBody) (others : SeenHeaders) → IsOver s → AreOver others
    → AreOver (seen_before s others)
with_one s Faulty one more = tt
with_one s NotWhole one more = absurd more
with_one s (Whole ss) one more = (one, more)

are_over : (hs : List Header) (seen : List Seen) → AreSettledAlone hs seen
    → AreOver (headers_seen hs seen)
unfolding request_of is_settled
are_over hs [] settled = tt
are_over hs (s ∷ ss) settled =
    by_seen s settled.0 (headers_seen (hs ++ header_seen hs s ∷ []) ss)
    (are_over (hs ++ header_seen hs s ∷ []) ss settled.1)
  where
    by_tokens : (ts : List Token) (r : Reading HeaderPhrase) (x : Ending)
        → is_settled_at Want.Merge r x ≡ true → (others : SeenHeaders) → AreOver others
        → AreOver (seen_at (Seen.First ts) r x others)
    by_tokens ts r (AtFault f) e others more = tt
    by_tokens ts r AtEnd e others more = cc
    by_tokens ts r AtLast e others more =
        with_one _ others (inr (merge_faulty (header_of (phrases_of r.placed)) r.rest e)) more

    by_stream : (stream : Stream) (r : Reading HeaderPhrase) (x : Ending) (others : SeenHeaders)
        → AreOver others → AreOver (seen_at (Seen.All stream) r x others)
    by_stream stream r (AtFault f) others more = tt
    by_stream stream r AtEnd others more = tt
    by_stream stream r AtLast others more = with_one _ others (inl refl) more

    by_seen : (t : Seen) → is_settled_alone (allowed_after hs) t ≡ true → (others : SeenHeaders)
        → AreOver others
        → AreOver (let r = reading_of (header_grammar (allowed_after hs)) (tokens_seen t) in
        seen_at t r r.ending others)
    by_seen (Seen.First ts) e others more =
        let r = reading_of (header_grammar (allowed_after hs)) ts in
        by_tokens ts r r.ending e others more
    by_seen (Seen.All stream) e others more =
        let r = reading_of (header_grammar (allowed_after hs)) stream.tokens in
        by_stream stream r r.ending others more

pub settled_alone_settles_merge : SettledAloneSettlesMerge
unfolding is_settled_merge
settled_alone_settles_merge seen settled =
    by_headers (headers_seen [] seen) (are_over [] seen settled)
  where
    by_headers : (k : SeenHeaders) → AreOver k → settles_merge k ≡ true
    by_headers Faulty over = refl
    by_headers NotWhole over = absurd over
    by_headers (Whole ss) over = none_matters _ _ 0 ss over
