use Rattle.vcd_body.proofs.Cited.{[], inl, inr, sym, ◌∙◌, rules, err_from_is_err_and, phrases_of}
use Rattle.vcd_body.proofs.Facts.{begins_as, first_of_item, scalar_begins}
use Rattle.vcd_body.proofs.ReadLemmas as given
use Rattle.vcd_body.proofs.read.read_phrase.Goals as goal

pub scalar_code-requires : goal.scalar_code-requires
scalar_code-requires g c = record { begins = scalar_begins c.token-token.result.now c.phrase_kind.result c.in-Bit.is c.phrase_kind.ensures }

pub returns-in_err-next_token-clause-reads : goal.returns-in_err-next_token-clause-reads
returns-in_err-next_token-clause-reads g c =
    let p = err_from_is_err_and c.from_residual.result c.from_residual.ensures.1 in
    rw (p.1, p.2) (λ h i front items v s.
    given.fault_given h.codes i front items s.placed _ c.next_token.new.feed s.items_are
    (c.in_err-next_token.ensures.reads h.codes i front s.placed [] (given.reads_of h.codes i front items c.args.feed.now c.args.regs.now s)))

pub returns-then-is_some-clause-reads : goal.returns-then-is_some-clause-reads
returns-then-is_some-clause-reads g c = λ h i front items v s.
    let a = rw c.if-not-branch.true at c.in_ok-next_token.ensures.reads h.codes i front s.placed [] (given.reads_of h.codes i front items c.args.feed.now c.args.regs.now s) in
    given.ends_inside h.codes i front items c.args.feed.now c.next_token.new.feed c.args.regs.now s a (sym c.is_some.ensures ∙ c.if-is_some.true)

pub returns-then-not-branch-clause-reads : goal.returns-then-not-branch-clause-reads
returns-then-not-branch-clause-reads g c = λ h i front items v s.
    let a = rw c.if-not-branch.true at c.in_ok-next_token.ensures.reads h.codes i front s.placed [] (given.reads_of h.codes i front items c.args.feed.now c.args.regs.now s) in
    given.ends_clean h.codes i front items c.args.feed.now c.next_token.new.feed c.args.regs.now s a (sym c.is_some.ensures ∙ c.if-is_some.false)

pub returns-in_err-scalar_code-in-Bit-clause-reads : goal.returns-in_err-scalar_code-in-Bit-clause-reads
returns-in_err-scalar_code-in-Bit-clause-reads g c =
    let p = err_from_is_err_and c.from_residual-in_err-scalar_code-in-Bit.result c.from_residual-in_err-scalar_code-in-Bit.ensures.1 in
    rw (p.1, p.2) (λ h i front items v s.
    let b = given.begun_at h.codes i front items c.args.feed.now c.next_token.new.feed c.args.regs.now c.in_ok-next_token.field-0 c.if-not-branch.false s
    (c.in_ok-next_token.ensures.reads h.codes i front s.placed [] (given.reads_of h.codes i front items c.args.feed.now c.args.regs.now s)) in
    given.refused_own h.codes i front items c.next_token.new.feed c.args.regs.now c.token-token.result.now _ b c.token-token.ensures
    (c.in_err-scalar_code-in-Bit.ensures.refuses h (phrases_of b.placed) v))

pub returns-in_err-read_timestamp-in-Timestamp-clause-reads : goal.returns-in_err-read_timestamp-in-Timestamp-clause-reads
returns-in_err-read_timestamp-in-Timestamp-clause-reads g c =
    let p = err_from_is_err_and c.from_residual-in_err-read_timestamp-in-Timestamp.result c.from_residual-in_err-read_timestamp-in-Timestamp.ensures.1 in
    rw (p.1, p.2) (λ h i front items v s.
    let b = given.begun_at h.codes i front items c.args.feed.now c.next_token.new.feed c.args.regs.now c.in_ok-next_token.field-0 c.if-not-branch.false s
    (c.in_ok-next_token.ensures.reads h.codes i front s.placed [] (given.reads_of h.codes i front items c.args.feed.now c.args.regs.now s)) in
    given.refused_own h.codes i front items c.next_token.new.feed c.args.regs.now c.token-token.result.now _ b c.token-token.ensures
    (c.in_err-read_timestamp-in-Timestamp.ensures.time h.codes (phrases_of b.placed) (given.known_so_far h.codes i front items c.next_token.new.feed c.args.regs.now b)))

pub returns-in_ok-scalar_code-in-Bit-clause-reads : goal.returns-in_ok-scalar_code-in-Bit-clause-reads
returns-in_ok-scalar_code-in-Bit-clause-reads g c = λ h i front items v s.
    let b = given.begun_at h.codes i front items c.args.feed.now c.next_token.new.feed c.args.regs.now c.in_ok-next_token.field-0 c.if-not-branch.false s
    (c.in_ok-next_token.ensures.reads h.codes i front s.placed [] (given.reads_of h.codes i front items c.args.feed.now c.args.regs.now s)) in
    let k = c.in_ok-scalar_code-in-Bit.ensures.finds.code h (phrases_of b.placed) v in
    (k.0, k.1, given.scalar_given h.codes i front items c.next_token.new.feed c.args.regs.now c.token-token.result.now k.0 b c.token-token.ensures k.2)

pub returns-in_ok-read_vector-in-Vector-clause-reads : goal.returns-in_ok-read_vector-in-Vector-clause-reads
returns-in_ok-read_vector-in-Vector-clause-reads g c = λ h i front items v s.
    let b = given.begun_at h.codes i front items c.args.feed.now c.next_token.new.feed c.args.regs.now c.in_ok-next_token.field-0 c.if-not-branch.false s
    (c.in_ok-next_token.ensures.reads h.codes i front s.placed [] (given.reads_of h.codes i front items c.args.feed.now c.args.regs.now s)) in
    let k = c.in_ok-read_vector-in-Vector.ensures.reads h i front b.placed v b.looks in
    (k.0, k.1, given.change_given h.codes i front items c.next_token.new.feed c.read_vector.new.feed c.args.regs.now _ b k.2)

pub returns-in_ok-read_real-in-Real-clause-reads : goal.returns-in_ok-read_real-in-Real-clause-reads
returns-in_ok-read_real-in-Real-clause-reads g c = λ h i front items v s.
    let b = given.begun_at h.codes i front items c.args.feed.now c.next_token.new.feed c.args.regs.now c.in_ok-next_token.field-0 c.if-not-branch.false s
    (c.in_ok-next_token.ensures.reads h.codes i front s.placed [] (given.reads_of h.codes i front items c.args.feed.now c.args.regs.now s)) in
    let k = c.in_ok-read_real-in-Real.ensures.reads h i front b.placed v b.looks in
    (k.0, k.1, given.change_given h.codes i front items c.next_token.new.feed c.read_real.new.feed c.args.regs.now _ b k.2)

pub returns-in_ok-read_timestamp-in-Timestamp-clause-reads : goal.returns-in_ok-read_timestamp-in-Timestamp-clause-reads
returns-in_ok-read_timestamp-in-Timestamp-clause-reads g c = λ h i front items v s.
    let b = given.begun_at h.codes i front items c.args.feed.now c.next_token.new.feed c.args.regs.now c.in_ok-next_token.field-0 c.if-not-branch.false s
    (c.in_ok-next_token.ensures.reads h.codes i front s.placed [] (given.reads_of h.codes i front items c.args.feed.now c.args.regs.now s)) in
    rw c.in_ok-read_timestamp-in-Timestamp.ensures.regs
    (given.time_given h.codes i front items c.next_token.new.feed c.args.regs.now c.token-token.result.now c.in_ok-read_timestamp-in-Timestamp.field-0 b c.token-token.ensures
    (c.in_ok-read_timestamp-in-Timestamp.ensures.time h.codes (phrases_of b.placed) (given.known_so_far h.codes i front items c.next_token.new.feed c.args.regs.now b)))

pub returns-in-Other-clause-reads : goal.returns-in-Other-clause-reads
returns-in-Other-clause-reads g c = λ h i front items v s.
    let b = given.begun_at h.codes i front items c.args.feed.now c.next_token.new.feed c.args.regs.now c.in_ok-next_token.field-0 c.if-not-branch.false s
    (c.in_ok-next_token.ensures.reads h.codes i front s.placed [] (given.reads_of h.codes i front items c.args.feed.now c.args.regs.now s)) in
    c.read_command.ensures.reads h.codes i front items b

pub returns-in-Other-clause-sound : goal.returns-in-Other-clause-sound
returns-in-Other-clause-sound g c = c.read_command.ensures.sound c.args.view.codes.now

pub returns-in_ok-read_timestamp-in-Timestamp-clause-regs : goal.returns-in_ok-read_timestamp-in-Timestamp-clause-regs
returns-in_ok-read_timestamp-in-Timestamp-clause-regs g c = c.in_ok-read_timestamp-in-Timestamp.ensures.regs

pub returns-in_err-next_token-clause-ahead : goal.returns-in_err-next_token-clause-ahead
returns-in_err-next_token-clause-ahead g c = λ w. let e = (first_of_item c.args.feed.now c.next_token.new.feed _ c.in_err-next_token.ensures.ahead w).given in absurd (cc)

pub returns-then-is_some-clause-ahead : goal.returns-then-is_some-clause-ahead
returns-then-is_some-clause-ahead g c = λ w. let e = (first_of_item c.args.feed.now c.next_token.new.feed _ c.in_ok-next_token.ensures.ahead w).given in let f = c.if-not-branch.true in absurd (cc)

pub returns-then-not-branch-clause-ahead : goal.returns-then-not-branch-clause-ahead
returns-then-not-branch-clause-ahead g c = λ w. let e = (first_of_item c.args.feed.now c.next_token.new.feed _ c.in_ok-next_token.ensures.ahead w).given in let f = c.if-not-branch.true in absurd (cc)

pub returns-in_err-scalar_code-in-Bit-clause-ahead : goal.returns-in_err-scalar_code-in-Bit-clause-ahead
returns-in_err-scalar_code-in-Bit-clause-ahead g c = λ w. (search rules, (first_of_item c.args.feed.now c.next_token.new.feed _ c.in_ok-next_token.ensures.ahead w).source_is)

pub returns-in_err-read_timestamp-in-Timestamp-clause-ahead : goal.returns-in_err-read_timestamp-in-Timestamp-clause-ahead
returns-in_err-read_timestamp-in-Timestamp-clause-ahead g c = λ w. (search rules, (first_of_item c.args.feed.now c.next_token.new.feed _ c.in_ok-next_token.ensures.ahead w).source_is)

pub returns-in_ok-scalar_code-in-Bit-clause-ahead : goal.returns-in_ok-scalar_code-in-Bit-clause-ahead
returns-in_ok-scalar_code-in-Bit-clause-ahead g c = λ w. (search rules, (first_of_item c.args.feed.now c.next_token.new.feed _ c.in_ok-next_token.ensures.ahead w).source_is)

pub returns-in_ok-read_timestamp-in-Timestamp-clause-ahead : goal.returns-in_ok-read_timestamp-in-Timestamp-clause-ahead
returns-in_ok-read_timestamp-in-Timestamp-clause-ahead g c = λ w. (search rules, (first_of_item c.args.feed.now c.next_token.new.feed _ c.in_ok-next_token.ensures.ahead w).source_is)

pub returns-in_err-read_vector-in-Vector-clause-ahead : goal.returns-in_err-read_vector-in-Vector-clause-ahead
returns-in_err-read_vector-in-Vector-clause-ahead g c = λ w.
    let f = first_of_item c.args.feed.now c.next_token.new.feed _ c.in_ok-next_token.ensures.ahead w in
    let m = f.letter_more (inl (begins_as _ _ _ _ c.phrase_kind.ensures c.in-Vector.is c.token-token.ensures)) in
    (search rules, c.in_err-read_vector-in-Vector.ensures.ahead m.0 m.1 m.2 ∙ f.source_is)

pub returns-in_ok-read_vector-in-Vector-clause-ahead : goal.returns-in_ok-read_vector-in-Vector-clause-ahead
returns-in_ok-read_vector-in-Vector-clause-ahead g c = λ w.
    let f = first_of_item c.args.feed.now c.next_token.new.feed _ c.in_ok-next_token.ensures.ahead w in
    let m = f.letter_more (inl (begins_as _ _ _ _ c.phrase_kind.ensures c.in-Vector.is c.token-token.ensures)) in
    (search rules, c.in_ok-read_vector-in-Vector.ensures.ahead m.0 m.1 m.2 ∙ f.source_is)

pub returns-in_err-read_real-in-Real-clause-ahead : goal.returns-in_err-read_real-in-Real-clause-ahead
returns-in_err-read_real-in-Real-clause-ahead g c = λ w.
    let f = first_of_item c.args.feed.now c.next_token.new.feed _ c.in_ok-next_token.ensures.ahead w in
    let m = f.letter_more (inr (begins_as _ _ _ _ c.phrase_kind.ensures c.in-Real.is c.token-token.ensures)) in
    (search rules, c.in_err-read_real-in-Real.ensures.ahead m.0 m.1 m.2 ∙ f.source_is)

pub returns-in_ok-read_real-in-Real-clause-ahead : goal.returns-in_ok-read_real-in-Real-clause-ahead
returns-in_ok-read_real-in-Real-clause-ahead g c = λ w.
    let f = first_of_item c.args.feed.now c.next_token.new.feed _ c.in_ok-next_token.ensures.ahead w in
    let m = f.letter_more (inr (begins_as _ _ _ _ c.phrase_kind.ensures c.in-Real.is c.token-token.ensures)) in
    (search rules, c.in_ok-read_real-in-Real.ensures.ahead m.0 m.1 m.2 ∙ f.source_is)

pub returns-in-Other-clause-ahead : goal.returns-in-Other-clause-ahead
returns-in-Other-clause-ahead g c = λ w.
    let f = first_of_item c.args.feed.now c.next_token.new.feed _ c.in_ok-next_token.ensures.ahead w in
    let a = c.read_command.ensures.ahead (f.no_comment (begins_as _ _ _ _ c.phrase_kind.ensures c.in-Other.is c.token-token.ensures)) in
    (a.0, a.1 ∙ f.source_is)
