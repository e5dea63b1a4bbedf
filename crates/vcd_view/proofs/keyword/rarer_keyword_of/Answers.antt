use Rattle.vcd_view.proofs.Cited.{◌≡◌, false, bytes_eq, codes, refl, sym, ◌∙◌, Keyword}
use Rattle.vcd_view.proofs.Facts.{keyword_found}
use Rattle.vcd_model.specs.Keywords.{keyword_of}
use Rattle.vcd_view.proofs.keyword.rarer_keyword_of.Goals as goal

pub returns-then-is : goal.returns-then-is
returns-then-is c = keyword_found Keyword.Scope c.args.token.now (sym c.is.ensures ∙ c.if-is.true)

pub returns-then-is-2 : goal.returns-then-is-2
returns-then-is-2 c = keyword_found Keyword.Upscope c.args.token.now (sym c.is-else-is.ensures ∙ c.if-is-2.true)

pub returns-then-is-3 : goal.returns-then-is-3
returns-then-is-3 c = keyword_found Keyword.Comment c.args.token.now (sym c.is-else-is-2.ensures ∙ c.if-is-3.true)

pub returns-then-is-4 : goal.returns-then-is-4
returns-then-is-4 c = keyword_found Keyword.Date c.args.token.now (sym c.is-else-is-3.ensures ∙ c.if-is-4.true)

pub returns-then-is-5 : goal.returns-then-is-5
returns-then-is-5 c = keyword_found Keyword.EndDefinitions c.args.token.now (sym c.is-else-is-4.ensures ∙ c.if-is-5.true)

pub returns-then-is-6 : goal.returns-then-is-6
returns-then-is-6 c = keyword_found Keyword.Timescale c.args.token.now (sym c.is-else-is-5.ensures ∙ c.if-is-6.true)

pub returns-then-is-7 : goal.returns-then-is-7
returns-then-is-7 c = keyword_found Keyword.Version c.args.token.now (sym c.is-else-is-6.ensures ∙ c.if-is-7.true)

pub returns-then-is-8 : goal.returns-then-is-8
returns-then-is-8 c = keyword_found Keyword.DumpAll c.args.token.now (sym c.is-else-is-7.ensures ∙ c.if-is-8.true)

pub returns-then-is-9 : goal.returns-then-is-9
returns-then-is-9 c = keyword_found Keyword.DumpOff c.args.token.now (sym c.is-else-is-8.ensures ∙ c.if-is-9.true)

pub returns-then-is-10 : goal.returns-then-is-10
returns-then-is-10 c = keyword_found Keyword.DumpOn c.args.token.now (sym c.is-else-is-9.ensures ∙ c.if-is-10.true)

pub returns-then-is-11 : goal.returns-then-is-11
returns-then-is-11 c = keyword_found Keyword.DumpVars c.args.token.now (sym c.is-else-is-10.ensures ∙ c.if-is-11.true)

pub returns-then-is-12 : goal.returns-then-is-12
returns-then-is-12 c = keyword_found Keyword.End c.args.token.now (sym c.is-else-is-11.ensures ∙ c.if-is-12.true)

pub returns-else-is-12 : goal.returns-else-is-12
unfolding keyword_of
returns-else-is-12 c =
    let t1 : bytes_eq (codes "$scope") c.args.token.now ≡ false = sym c.is.ensures ∙ c.if-is.false in
    let t2 : bytes_eq (codes "$upscope") c.args.token.now ≡ false = sym c.is-else-is.ensures ∙ c.if-is-2.false in
    let t3 : bytes_eq (codes "$comment") c.args.token.now ≡ false = sym c.is-else-is-2.ensures ∙ c.if-is-3.false in
    let t4 : bytes_eq (codes "$date") c.args.token.now ≡ false = sym c.is-else-is-3.ensures ∙ c.if-is-4.false in
    let t5 : bytes_eq (codes "$enddefinitions") c.args.token.now ≡ false = sym c.is-else-is-4.ensures ∙ c.if-is-5.false in
    let t6 : bytes_eq (codes "$timescale") c.args.token.now ≡ false = sym c.is-else-is-5.ensures ∙ c.if-is-6.false in
    let t7 : bytes_eq (codes "$version") c.args.token.now ≡ false = sym c.is-else-is-6.ensures ∙ c.if-is-7.false in
    let t8 : bytes_eq (codes "$dumpall") c.args.token.now ≡ false = sym c.is-else-is-7.ensures ∙ c.if-is-8.false in
    let t9 : bytes_eq (codes "$dumpoff") c.args.token.now ≡ false = sym c.is-else-is-8.ensures ∙ c.if-is-9.false in
    let t10 : bytes_eq (codes "$dumpon") c.args.token.now ≡ false = sym c.is-else-is-9.ensures ∙ c.if-is-10.false in
    let t11 : bytes_eq (codes "$dumpvars") c.args.token.now ≡ false = sym c.is-else-is-10.ensures ∙ c.if-is-11.false in
    let t12 : bytes_eq (codes "$end") c.args.token.now ≡ false = sym c.is-else-is-11.ensures ∙ c.if-is-12.false in
    rw (c.requires, t1, t2, t3, t4, t5, t6, t7, t8, t9, t10, t11, t12) refl
