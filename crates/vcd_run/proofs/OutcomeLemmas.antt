-- What a run leaves belongs to the outcome of its plan, whatever the task.
use Rattle.std.proofs.Common.{◌≡◌, inl, inr, ℕ, Bool, true, false, List, ◌++◌, Option, Some, None, Result, Ok, Err, refl, sym, ap, subst, ◌∙◌, append-nil, append_assoc, []}
use Rattle.vcd_model.specs.BodyReading.{body_fault_of, body_items, read_body}
use Rattle.vcd_model.specs.Header.{Header}
use Rattle.vcd_model.specs.Input.{Input}
use Rattle.vcd_model.specs.Items.{BodyItem}
use Rattle.vcd_model.specs.Laws.{IsPrefixOf}
use Rattle.vcd_model.specs.Outcome.{Outcome}
use Rattle.vcd_model.specs.Reading.{Fault}
use Rattle.vcd_model.specs.Tokens.{Token, stream_of}
use Rattle.vcd_text.proofs.Writes.{some-first}
use Rattle.vcd_text.specs.Device.{Device, WritesSome}
use Rattle.vcd_body.specs.declared.answer.Done.{Done}
use Rattle.vcd_body.specs.declared.answer.Done.TheVariants.{Early, Whole}
use Rattle.vcd_body.specs.declared.answer.Stop.{Stop}
use Rattle.vcd_body.specs.declared.answer.Stop.TheVariants.{Dump, Read, Write, Unmatched}
use Rattle.vcd_run.specs.Outcomes.{GivesOutcome, IsSound, KeepOutput, Ways, over_plan}
use Rattle.vcd_run.specs.Plan.{Plan}
use Rattle.vcd_run.specs.Run.{BodyGives, left_of}

module _ (p : Plan) (w : Ways) (kept : KeepOutput w) where
  over_ended : (items : List BodyItem) (fault : Option Fault) → p.ends items ≡ true → over_plan p w items fault ≡ w.early (p.opens items)
  unfolding over_plan
  over_ended items fault ends = rw (ends, over_plan) refl

  over_clean : (items : List BodyItem) → p.ends items ≡ false → over_plan p w items None ≡ w.well items (p.opens items ++ p.closes items)
  unfolding over_plan
  over_clean items on = rw (on, over_plan) refl

  over_faulty : (items : List BodyItem) (f : Fault) → p.ends items ≡ false → over_plan p w items (Some f) ≡ w.faulty (p.opens items) f
  unfolding over_plan
  over_faulty items f on = rw (on, over_plan) refl

  -- each outcome begins with what is due with the items
  pub begins : (items : List BodyItem) (fault : Option Fault) → IsPrefixOf (p.opens items) (over_plan p w items fault).output
  begins items fault = by_end (p.ends items) refl
    where
      by_fault : (f : Option Fault) → p.ends items ≡ false → IsPrefixOf (p.opens items) (over_plan p w items f).output
      by_fault None on =
          let more = kept.well items (p.opens items ++ p.closes items) in
          (p.closes items ++ more.0, ap (λ (o : Outcome). o.output) (over_clean items on) ∙ more.1 ∙ append_assoc (p.opens items) (p.closes items) more.0)
      by_fault (Some f) on = ([], ap (λ (o : Outcome). o.output) (over_faulty items f on) ∙ kept.faulty (p.opens items) f ∙ sym (append-nil (p.opens items)))

      by_end : (b : Bool) → p.ends items ≡ b → IsPrefixOf (p.opens items) (over_plan p w items fault).output
      by_end true e = let more = kept.early (p.opens items) in (more.0, ap (λ (o : Outcome). o.output) (over_ended items fault e) ∙ more.1)
      by_end false e = by_fault fault e

  module _ (told : List BodyItem → List ℕ → Type 0) (h : Header) (sound : IsSound p h.codes) (i : Input) (front : List Token) (limit read : ℕ) (out out' : Device) where
    abbrev Given : Result Done Stop → Type 0
    Given r = BodyGives told p h i front limit read out out' r

    abbrev Leaves : Result Done Stop → Type 0
    Leaves r = GivesOutcome told p w h (left_of i read r) front limit out out' r

    pub gives_outcome : (r : Result Done Stop) → Given r → Leaves r
    gives_outcome (Ok Whole) (items, has, on, written, is) = record {
      rest = has.rest;
      tokens = has.tokens;
      belongs = (
        items,
        p.opens items ++ p.closes items,
        ap (over_plan p w (body_items (read_body h.codes has.rest))) has.fault_is
            ∙ ap (λ l. over_plan p w l None) has.items_are ∙ over_clean items on,
        written,
        is,
      );
      early = ap p.ends has.items_are ∙ on;
    }
    gives_outcome (Ok Early) (items, b, ends, written, is) =
        let all = sound limit i front b.rest items b.begins.0 b.tokens b.begins.1 in
        let both = all.1 ends in
        record {
          rest = b.rest;
          tokens = b.tokens;
          belongs = (
            items,
            p.opens items,
            ap (λ l. over_plan p w l (body_fault_of (stream_of limit i) (read_body h.codes b.rest))) b.begins.1
                ∙ over_ended (items ++ b.begins.0) _ both.0 ∙ ap w.early both.1,
            written,
            is,
          );
          early = ap p.ends b.begins.1 ∙ both.0;
        }
    gives_outcome (Err (Dump input line fault)) (items, is, other, has, on, written) = record {
      rest = has.rest;
      tokens = has.tokens;
      belongs = (
        p.opens items,
        is,
        other,
        ap (over_plan p w (body_items (read_body h.codes has.rest))) has.fault_is
            ∙ ap (λ l. over_plan p w l (Some (record { number = fault; line = line }))) has.items_are
            ∙ over_faulty items (record { number = fault; line = line }) on,
        written,
      );
      early = tt;
    }
    gives_outcome (Err (Read input)) (items, line, is, has, on, written) = record {
      rest = has.rest;
      tokens = has.tokens;
      belongs = (
        p.opens items,
        line,
        is,
        ap (over_plan p w (body_items (read_body h.codes has.rest))) has.fault_is
            ∙ ap (λ l. over_plan p w l (Some (record { number = 31; line = line }))) has.items_are
            ∙ over_faulty items (record { number = 31; line = line }) on,
        written,
      );
      early = tt;
    }
    gives_outcome (Err Write) (inl (items, b, some)) =
        let all = sound limit i front b.rest items b.begins.0 b.tokens b.begins.1 in
        let fault = body_fault_of (stream_of limit i) (read_body h.codes b.rest) in
        let more = begins (items ++ b.begins.0) fault in
        let first = all.0 in
        record {
          rest = b.rest;
          tokens = b.tokens;
          belongs = subst (WritesSome out out') (sym (ap (λ l. (over_plan p w l fault).output) b.begins.1 ∙ more.1 ∙ ap (λ l. l ++ more.0) first.1
              ∙ append_assoc (p.opens items) first.0 more.0)) (some-first out out' (p.opens items) (first.0 ++ more.0) some);
          early = tt;
        }
    gives_outcome (Err Write) (inr (items, has, on, some)) =
        let more = kept.well items (p.opens items ++ p.closes items) in
        record {
          rest = has.rest;
          tokens = has.tokens;
          belongs = subst (WritesSome out out') (sym (ap (λ (o : Outcome). o.output)
              (ap (over_plan p w (body_items (read_body h.codes has.rest))) has.fault_is ∙ ap (λ l. over_plan p w l None) has.items_are
              ∙ over_clean items on) ∙ more.1)) (some-first out out' (p.opens items ++ p.closes items) more.0 some);
          early = tt;
        }
    gives_outcome (Err (Unmatched name)) given = absurd given
