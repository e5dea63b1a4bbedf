use Rattle.std.proofs.Common.{◌≡◌, ◌≢◌, ◌∙◌, ◌&&◌, ◌<◌, ◌++◌, ◌∷◌, [], ℕ, List, MatchOption, ap, arith, bytes_eq, subst, sym, take}
use Rattle.std.proofs.lemmas.Bool.Decides.{Decides-eqb}
use Rattle.std.proofs.lemmas.Option.{slice_get_within}
use Rattle.std.proofs.lemmas.Slice.Eq.{strip_suffix_is}
use Rattle.vcd_model.specs.Declarations.{name_of, path_of}
use Rattle.vcd_strobe.proofs.PathSteps.{part_first, part_last, part_next, part_no_dot, part_other, turned}
use Rattle.vcd_strobe.proofs.paths.has_path.Goals as goal

pub returns-then-not-is_variable : goal.returns-then-not-is_variable
returns-then-not-is_variable c = λ h d views at.
    sym (ap (λ b. b && bytes_eq (path_of (take c.args.row h.declarations) d) c.args.path.now) (sym (c.is_variable.ensures h d views at) ∙ c.if-not-is_variable.true))

pub loop-scope-init : goal.loop-scope-init
loop-scope-init c = λ h d views at. part_first h c.args.row d c.args.path.now c.as_bytes-rest.result.now at c.as_bytes-rest.ensures.value

pub returns-in_default-strip_suffix : goal.returns-in_default-strip_suffix
returns-in_default-strip_suffix c = λ h d views at.
    let rest = c.loop-scope.rest.now in
    let has = c.loop-scope.invariant h d views at in
    let part = slice_get_within h.declarations c.loop-scope.part has.declared has.at in
    let earlier : c.in-Some.scope < c.loop-scope.part = c.in-Some.ensures.earlier in
    let name : c.name_of.result.now ≡ name_of has.declared = c.name_of.ensures h has.declared views has.at in
    let none : (front : List ℕ) → rest ≢ front ++ c.name_of.result.now =
    subst (λ o. MatchOption o ((front : List ℕ) → rest ≢ front ++ c.name_of.result.now) (λ x. rest ≡ x.now ++ c.name_of.result.now)) c.in_default-strip_suffix.is
    (strip_suffix_is Decides-eqb rest c.name_of.result.now c.strip_suffix.result c.strip_suffix.ensures.cases) in
    let differs = part_other h c.args.row d c.args.path.now c.loop-scope.part rest has c.in-Some.scope (omega (arith, part, earlier))
    (sym (c.in-Some.ensures.scope h views part)) (λ front e. none front (e ∙ ap (λ l. front ++ l) (sym name))) in
    sym (ap (λ b. b && bytes_eq (path_of (take c.args.row h.declarations) d) c.args.path.now) (sym (c.is_variable.ensures h d views at) ∙ c.if-not-is_variable.false) ∙ differs)

pub returns-in_default-strip_suffix-2 : goal.returns-in_default-strip_suffix-2
returns-in_default-strip_suffix-2 c = λ h d views at.
    let rest = c.loop-scope.rest.now in
    let front = c.in-Some-strip_suffix.front.now in
    let has = c.loop-scope.invariant h d views at in
    let part = slice_get_within h.declarations c.loop-scope.part has.declared has.at in
    let earlier : c.in-Some.scope < c.loop-scope.part = c.in-Some.ensures.earlier in
    let name : c.name_of.result.now ≡ name_of has.declared = c.name_of.ensures h has.declared views has.at in
    let ends : rest ≡ front ++ c.name_of.result.now =
    subst (λ o. MatchOption o ((front : List ℕ) → rest ≢ front ++ c.name_of.result.now) (λ x. rest ≡ x.now ++ c.name_of.result.now)) c.in-Some-strip_suffix.is
    (strip_suffix_is Decides-eqb rest c.name_of.result.now c.strip_suffix.result c.strip_suffix.ensures.cases) in
    let none : (f : List ℕ) → front ≢ f ++ 46 ∷ [] =
    subst (λ o. MatchOption o ((f : List ℕ) → front ≢ f ++ 46 ∷ []) (λ x. front ≡ x.now ++ 46 ∷ [])) c.in_default-strip_suffix-2.is
    (strip_suffix_is Decides-eqb front (46 ∷ []) c.strip_suffix-in-Some.result c.strip_suffix-in-Some.ensures.cases) in
    let differs = part_no_dot h c.args.row d c.args.path.now c.loop-scope.part rest has c.in-Some.scope (omega (arith, part, earlier))
    (sym (c.in-Some.ensures.scope h views part)) front (ends ∙ ap (λ l. front ++ l) name) none in
    sym (ap (λ b. b && bytes_eq (path_of (take c.args.row h.declarations) d) c.args.path.now) (sym (c.is_variable.ensures h d views at) ∙ c.if-not-is_variable.false) ∙ differs)

pub loop-scope-preserved : goal.loop-scope-preserved
loop-scope-preserved c = λ h d views at.
    let rest = c.loop-scope.rest.now in
    let front = c.in-Some-strip_suffix.front.now in
    let has = c.loop-scope.invariant h d views at in
    let part = slice_get_within h.declarations c.loop-scope.part has.declared has.at in
    let earlier : c.in-Some.scope < c.loop-scope.part = c.in-Some.ensures.earlier in
    let name : c.name_of.result.now ≡ name_of has.declared = c.name_of.ensures h has.declared views has.at in
    let ends : rest ≡ front ++ c.name_of.result.now =
    subst (λ o. MatchOption o ((front : List ℕ) → rest ≢ front ++ c.name_of.result.now) (λ x. rest ≡ x.now ++ c.name_of.result.now)) c.in-Some-strip_suffix.is
    (strip_suffix_is Decides-eqb rest c.name_of.result.now c.strip_suffix.result c.strip_suffix.ensures.cases) in
    let dot : front ≡ c.in-Some-strip_suffix-2.front.now ++ 46 ∷ [] =
    subst (λ o. MatchOption o ((f : List ℕ) → front ≢ f ++ 46 ∷ []) (λ x. front ≡ x.now ++ 46 ∷ [])) c.in-Some-strip_suffix-2.is
    (strip_suffix_is Decides-eqb front (46 ∷ []) c.strip_suffix-in-Some.result c.strip_suffix-in-Some.ensures.cases) in
    part_next h c.args.row d c.args.path.now c.loop-scope.part rest has c.in-Some.scope (omega (arith, part, earlier))
    (sym (c.in-Some.ensures.scope h views part)) front (ends ∙ ap (λ l. front ++ l) name) c.in-Some-strip_suffix-2.front.now dot

pub returns : goal.returns
returns c = λ h d views at.
    let rest = c.loop-scope.rest.now in
    let has = c.loop-scope.invariant h d views at in
    let part = slice_get_within h.declarations c.loop-scope.part has.declared has.at in
    let name : c.name_of-2.result.now ≡ name_of has.declared = c.name_of-2.ensures h has.declared views has.at in
    let same = part_last h c.args.row d c.args.path.now c.loop-scope.part rest has (sym (c.scope_of.ensures.scope h views part) ∙ c.in_default.is) in
    c.eq.ensures ∙ ap (bytes_eq rest) name ∙ turned rest (name_of has.declared) ∙ sym same
    ∙ sym (ap (λ b. b && bytes_eq (path_of (take c.args.row h.declarations) d) c.args.path.now) (sym (c.is_variable.ensures h d views at) ∙ c.if-not-is_variable.false))
