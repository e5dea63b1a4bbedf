use Rattle.vcd_body.proofs.Cited.{◌≡◌, ◌++◌, [], List, ℕ, append-nil, subst, sym, BodyItem, ahead_of, lines_of, limit_of, GaveAhead, AreRegsAfter, GaveItems}
use Rattle.vcd_body.proofs.Facts.{gave_none_ahead}
use Rattle.vcd_body.proofs.ahead.pass_comments.Goals as goal

pub pass_items-requires : goal.pass_items-requires
pass_items-requires g c =
    let a = c.ahead.ensures in
    let f = c.args.feed.now in
    let p = c.after_comments-past.ensures.passes (limit_of f) (lines_of f) (ahead_of f) [] (a.limit, a.bytes) a.passed in
    (p.0, rw c.passed-bytes.ensures.passed p.1)

pub returns-clause-gives : goal.returns-clause-gives
returns-clause-gives g c = λ codes i front items r h.
    let a = c.ahead.ensures in
    let f = c.args.feed.now in
    let none = subst (λ (n : ℕ). GaveAhead codes (limit_of f) (lines_of f) (ahead_of f) n items []) (sym a.passed) (gave_none_ahead codes (limit_of f) (lines_of f) (ahead_of f) items) in
    let past = c.after_comments-past.ensures.gives codes (limit_of f) (lines_of f) (ahead_of f) items [] (a.limit, a.bytes) none in
    let nil : items ++ [] ≡ items = append-nil items in
    subst (λ (l : List BodyItem). GaveItems codes i front l c.pass_items.new.feed r) nil
    (c.pass_items.ensures.gives codes i front items [] r r h (rw c.passed-bytes.ensures.passed past) (subst (λ (l : List BodyItem). AreRegsAfter l r) (sym nil) h.known))
