use Rattle.vcd_head.proofs.Cited.{◌≡◌, [], ◌∷◌, Some, refl, subst, rules, err_from_is_err_and, Keyword, keyword_text, AtFirstToken}
use Rattle.vcd_head.proofs.Facts.{not_begun}
use Rattle.vcd_view.specs.declared.keyword.Keyword.TheVariants as word
use Rattle.vcd_head.proofs.PhraseSteps as steps
use Rattle.vcd_head.proofs.phrases.read_rest.Goals as goal

pub returns-in-Some-DumpAll-clause-reads : goal.returns-in-Some-DumpAll-clause-reads
returns-in-Some-DumpAll-clause-reads g c = λ i begun.
    let is : c.args.keyword ≡ Some word.DumpAll = search rules in
    let b = subst (λ k. AtFirstToken c.args.most i k c.args.draft.now c.args.feed.now) is begun in
    not_begun c.args.most i b.placed Keyword.DumpAll c.args.feed.now 4 b.keyword refl b.token_read

pub returns-in-Some-DumpOff-clause-reads : goal.returns-in-Some-DumpOff-clause-reads
returns-in-Some-DumpOff-clause-reads g c = λ i begun.
    let is : c.args.keyword ≡ Some word.DumpOff = search rules in
    let b = subst (λ k. AtFirstToken c.args.most i k c.args.draft.now c.args.feed.now) is begun in
    not_begun c.args.most i b.placed Keyword.DumpOff c.args.feed.now 4 b.keyword refl b.token_read

pub returns-in-Some-DumpOn-clause-reads : goal.returns-in-Some-DumpOn-clause-reads
returns-in-Some-DumpOn-clause-reads g c = λ i begun.
    let is : c.args.keyword ≡ Some word.DumpOn = search rules in
    let b = subst (λ k. AtFirstToken c.args.most i k c.args.draft.now c.args.feed.now) is begun in
    not_begun c.args.most i b.placed Keyword.DumpOn c.args.feed.now 4 b.keyword refl b.token_read

pub returns-in-Some-DumpVars-clause-reads : goal.returns-in-Some-DumpVars-clause-reads
returns-in-Some-DumpVars-clause-reads g c = λ i begun.
    let is : c.args.keyword ≡ Some word.DumpVars = search rules in
    let b = subst (λ k. AtFirstToken c.args.most i k c.args.draft.now c.args.feed.now) is begun in
    not_begun c.args.most i b.placed Keyword.DumpVars c.args.feed.now 4 b.keyword refl b.token_read

pub returns-in-Some-End-clause-reads : goal.returns-in-Some-End-clause-reads
returns-in-Some-End-clause-reads g c = λ i begun.
    let is : c.args.keyword ≡ Some word.End = search rules in
    let b = subst (λ k. AtFirstToken c.args.most i k c.args.draft.now c.args.feed.now) is begun in
    not_begun c.args.most i b.placed Keyword.End c.args.feed.now 4 b.keyword refl b.token_read

pub returns-in-Some-Comment-clause-reads : goal.returns-in-Some-Comment-clause-reads
returns-in-Some-Comment-clause-reads g c = λ i begun.
    let is : c.args.keyword ≡ Some word.Comment = search rules in
    let b = subst (λ k. AtFirstToken c.args.most i k c.args.draft.now c.args.feed.now) is begun in
    rw is (steps.comment_read c.args.most i c.args.draft.now c.args.feed.now c.skip_to_end.new.feed c.skip_to_end.result b
    (c.skip_to_end.ensures.reads c.args.most i b.placed (keyword_text Keyword.Comment ∷ [])))

pub returns-in_err-draft-in-Some-Date-clause-reads : goal.returns-in_err-draft-in-Some-Date-clause-reads
returns-in_err-draft-in-Some-Date-clause-reads g c =
    let p = err_from_is_err_and c.from_residual.result c.from_residual.ensures.1 in
    rw (p.1, p.2) (λ i begun.
    let is : c.args.keyword ≡ Some word.Date = search rules in
    let b = subst (λ k. AtFirstToken c.args.most i k c.args.draft.now c.args.feed.now) is begun in
    let s = steps.text_begun c.args.most i Keyword.Date c.args.draft.now c.args.feed.now b refl refl (λ inner t. refl) (λ inner t none e. steps.not_whole_date inner t none e) in
    c.in_err-draft-in-Some-Date.ensures.reads c.args.most i b.placed (keyword_text Keyword.Date ∷ []) s.1 s.0)

pub returns-in_ok-draft-in-Some-Date-clause-reads : goal.returns-in_ok-draft-in-Some-Date-clause-reads
returns-in_ok-draft-in-Some-Date-clause-reads g c = λ i begun.
    let is : c.args.keyword ≡ Some word.Date = search rules in
    let b = subst (λ k. AtFirstToken c.args.most i k c.args.draft.now c.args.feed.now) is begun in
    let s = steps.text_begun c.args.most i Keyword.Date c.args.draft.now c.args.feed.now b refl refl (λ inner t. refl) (λ inner t none e. steps.not_whole_date inner t none e) in
    rw is (steps.date_read c.args.most i c.args.draft.now c.args.feed.now c.text_to_end.new.feed c.in_ok-draft-in-Some-Date.field-0 b
    (c.in_ok-draft-in-Some-Date.ensures.reads c.args.most i b.placed (keyword_text Keyword.Date ∷ []) s.1 s.0))

pub returns-in_err-draft-in-Some-Version-clause-reads : goal.returns-in_err-draft-in-Some-Version-clause-reads
returns-in_err-draft-in-Some-Version-clause-reads g c =
    let p = err_from_is_err_and c.from_residual-in_err-draft-in-Some-Version.result c.from_residual-in_err-draft-in-Some-Version.ensures.1 in
    rw (p.1, p.2) (λ i begun.
    let is : c.args.keyword ≡ Some word.Version = search rules in
    let b = subst (λ k. AtFirstToken c.args.most i k c.args.draft.now c.args.feed.now) is begun in
    let s = steps.text_begun c.args.most i Keyword.Version c.args.draft.now c.args.feed.now b refl refl (λ inner t. refl) (λ inner t none e. steps.not_whole_version inner t none e) in
    c.in_err-draft-in-Some-Version.ensures.reads c.args.most i b.placed (keyword_text Keyword.Version ∷ []) s.1 s.0)

pub returns-in_ok-draft-in-Some-Version-clause-reads : goal.returns-in_ok-draft-in-Some-Version-clause-reads
returns-in_ok-draft-in-Some-Version-clause-reads g c = λ i begun.
    let is : c.args.keyword ≡ Some word.Version = search rules in
    let b = subst (λ k. AtFirstToken c.args.most i k c.args.draft.now c.args.feed.now) is begun in
    let s = steps.text_begun c.args.most i Keyword.Version c.args.draft.now c.args.feed.now b refl refl (λ inner t. refl) (λ inner t none e. steps.not_whole_version inner t none e) in
    rw is (steps.version_read c.args.most i c.args.draft.now c.args.feed.now c.text_to_end-in-Some-Version.new.feed c.in_ok-draft-in-Some-Version.field-0 b
    (c.in_ok-draft-in-Some-Version.ensures.reads c.args.most i b.placed (keyword_text Keyword.Version ∷ []) s.1 s.0))

pub returns-in-Some-EndDefinitions-clause-reads : goal.returns-in-Some-EndDefinitions-clause-reads
returns-in-Some-EndDefinitions-clause-reads g c = λ i begun.
    let is : c.args.keyword ≡ Some word.EndDefinitions = search rules in
    let b = subst (λ k. AtFirstToken c.args.most i k c.args.draft.now c.args.feed.now) is begun in
    rw is (steps.end_taken c.args.most i c.args.draft.now c.args.feed.now c.next_end.new.feed c.next_end.result b c.next_end.ensures.reads)
