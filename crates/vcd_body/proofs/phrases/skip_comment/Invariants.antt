use Rattle.vcd_body.proofs.Cited.{ℕ, ◌-◌, ◌^◌, ◌≤◌, List, [], ◌∷◌, Input, Token, Keyword, keyword_text, IdCode, BodyPhrase, Placed, seen, NoEnds, Reads, Advances, CallEnd}
use Rattle.vcd_body.proofs.phrases.skip_comment.Given as goal

abbrev pub invariant-tokens : goal.invariant-tokens
invariant-tokens g l = Advances g.S.Source.failures l.fn.feed l.feed CallEnd.GoesOn × (seen l.fn.feed ≤ seen l.feed)
    × ((codes : List IdCode) (i : Input) (front : List Token) (placed : List (Placed BodyPhrase)) → Reads codes i front placed (keyword_text Keyword.Comment ∷ []) l.fn.feed
    → (inner : List (List ℕ)) × NoEnds inner × Reads codes i front placed (keyword_text Keyword.Comment ∷ inner) l.feed)

abbrev pub decreases-tokens : goal.decreases-tokens
decreases-tokens g l = 2 ^ 63 - seen l.feed
