-- Items that a task takes ahead in a feed's chunk.
use Rattle.std.proofs.Common.{◌≡◌, ◌∙◌, ◌+◌, arith, ℕ, false, List, [], Result, Ok, Err, refl, sym, ap, subst, append-nil}
use Rattle.std.proofs.lemmas.List.{length-append}
use Rattle.vcd_model.specs.Header.{Header}
use Rattle.vcd_model.specs.Input.{Input}
use Rattle.vcd_model.specs.Items.{BodyItem}
use Rattle.vcd_model.specs.Tokens.{Token}
use Rattle.vcd_text.proofs.Writes.{appends-none}
use Rattle.vcd_text.specs.Ahead.{ahead_of, bytes_of, lines_of, longest_of}
use Rattle.vcd_text.specs.Device.{Device}
use Rattle.vcd_text.specs.Feed.{limit_of, seen}
use Rattle.vcd_text.specs.declared.ahead.Ahead.{Ahead}
use Rattle.vcd_text.specs.declared.device.Source.{Ghosts}
use Rattle.vcd_text.specs.declared.feed.Feed.{Feed}
use Rattle.vcd_view.specs.declared.view.HeadView.{HeadView}
use Rattle.vcd_body.proofs.CallerLemmas.{gave_none_ahead}
use Rattle.vcd_body.specs.Ahead.{GaveAhead, GivesAhead}
use Rattle.vcd_body.specs.Items.{AreRegsAfter}
use Rattle.vcd_body.specs.declared.item.Regs.{Regs}
use Rattle.vcd_run.specs.Plan.{Plan}
use Rattle.vcd_run.specs.Run.{AheadGives, HasTaken}
use Rattle.vcd_run.specs.Task.{EndsAhead, RunsOver}

-- what the items ahead leave of a task that has come past these items
pub come_ahead : {T X A E : Type 0} {g : Ghosts X} (keeps : T → Plan → Header → List BodyItem → Type 0) (p : Plan) (h : Header) (i : Input)
    (front : List Token) (items : List BodyItem) (task : T) (r : Regs) (f : Feed X g) → HasTaken keeps p h i front items task r f
    → (a : Ahead) (task' : T) (r' : Regs) (f' : Feed X g) (out out' : Device) (n : ℕ) → longest_of a ≡ limit_of f → bytes_of a ≡ ahead_of f
    → GivesAhead n f f' → seen f' ≡ seen f + n → (result : Result A E) (more : List BodyItem)
    → EndsAhead keeps p h (longest_of a) (lines_of f) (bytes_of a) n task' r' out out' result items more → AheadGives keeps p h i front items task' r' f' out out' result more
come_ahead keeps p h i front items task r f s a task' r' f' out out' n limit bytes gives looked result more ends = by_result result ends
  where
    there : GaveAhead h.codes (longest_of a) (lines_of f) (bytes_of a) n items more → GaveAhead h.codes (limit_of f) (lines_of f) (ahead_of f) n items more
    there gave = subst (λ (bs : List ℕ). GaveAhead h.codes (limit_of f) (lines_of f) bs n items more) bytes
        (subst (λ (k : ℕ). GaveAhead h.codes k (lines_of f) (bytes_of a) n items more) limit gave)

    by_result : {A E : Type 0} (q : Result A E) → EndsAhead keeps p h (longest_of a) (lines_of f) (bytes_of a) n task' r' out out' q items more
        → AheadGives keeps p h i front items task' r' f' out out' q more
    by_result (Ok v) t = (
      record {
        gave = gives h.codes i front items more r r' s.gave (there t.0) t.1;
        stands = t.2;
        on = t.3;
        few = let each = t.0.few in
            let n = s.few in omega (arith, each, n, length-append items more, looked);
      },
      t.4,
    )
    by_result (Err e) t = (gives h.codes i front items more r r' s.gave (there t.0) t.1, t.2)

-- a task that takes nothing ahead
pub takes_none : {T : Type 0} (keeps : T → Plan → Header → List BodyItem → Type 0) (v : HeadView) (a : Ahead) (r : Regs) (m : T) (out : Device)
    → RunsOver keeps v a r m m out out (record { passed = 0; regs = r; written = Ok tt })
takes_none keeps v a r m out = record {
  gives = λ p h lines before views known few stands on first.
      let nil = sym (append-nil before) in (
        [],
        (
          gave_none_ahead h.codes (longest_of a) lines (bytes_of a) before,
          subst (λ (l : List BodyItem). AreRegsAfter l r) nil known,
          subst (keeps m p h) nil stands,
          subst (λ (l : List BodyItem). p.ends l ≡ false) nil on,
          ([], ap p.opens (append-nil before) ∙ sym (append-nil (p.opens before)), (appends-none out.held, refl)),
        ),
      );
  passes = λ lines first. ([], refl);
  counts = refl;
}
