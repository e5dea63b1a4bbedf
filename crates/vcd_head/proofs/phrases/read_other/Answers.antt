use Rattle.vcd_head.proofs.Cited.{◌≡◌, ◌∷◌, [], true, false, sym, ap, ◌∙◌, is_command, begins_change, phrases_of, token_of}
use Rattle.vcd_head.proofs.Facts.{refused, fault_of_change, fault_of_other, unknown_begun, unknown_read}
use Rattle.vcd_head.proofs.phrases.read_other.Goals as goal

pub returns-then-begins_change-clause-reads : goal.returns-then-begins_change-clause-reads
returns-then-begins_change-clause-reads g c = λ most i draft b.
    let o : begins_change (token_of c.args.feed.now).bytes ≡ true = sym (c.begins_change.ensures ∙ ap begins_change c.token.ensures) ∙ c.if-begins_change.true in
    refused most i b.placed [] c.args.feed.now 4 (fault_of_change most (phrases_of b.placed) (token_of c.args.feed.now).bytes b.other o) b.token_read

pub returns-then-not-is_command-clause-reads : goal.returns-then-not-is_command-clause-reads
returns-then-not-is_command-clause-reads g c = λ most i draft b.
    let o : begins_change (token_of c.args.feed.now).bytes ≡ false = sym (c.begins_change.ensures ∙ ap begins_change c.token.ensures) ∙ c.if-begins_change.false in
    let k : is_command (token_of c.args.feed.now).bytes ≡ false = sym (c.is_command.ensures ∙ ap is_command c.token-2.ensures) ∙ c.if-not-is_command.true in
    refused most i b.placed [] c.args.feed.now 3 (fault_of_other most (phrases_of b.placed) (token_of c.args.feed.now).bytes b.other o k) b.token_read

pub returns-clause-reads : goal.returns-clause-reads
returns-clause-reads g c = λ most i draft b.
    let o : begins_change (token_of c.args.feed.now).bytes ≡ false = sym (c.begins_change.ensures ∙ ap begins_change c.token.ensures) ∙ c.if-begins_change.false in
    let k : is_command (token_of c.args.feed.now).bytes ≡ true = sym (c.is_command.ensures ∙ ap is_command c.token-2.ensures) ∙ c.if-not-is_command.false in
    let s = unknown_begun most i draft c.args.feed.now b o k in
    unknown_read most i draft c.args.feed.now c.skip_to_end.new.feed c.skip_to_end.result b o k (c.skip_to_end.ensures.reads most i b.placed ((token_of c.args.feed.now).bytes ∷ []) s.1 s.0)
