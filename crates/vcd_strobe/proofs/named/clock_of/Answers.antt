use Rattle.std.proofs.Common.{◌≡◌, [], Err, Ok, Some, rules, subst, sym}
use Rattle.std.specs.Prelude.{string_bytes}
use Rattle.vcd_model.specs.Strobe.{variables_at}
use Rattle.vcd_strobe.proofs.NamedSteps.{by_path, by_word, missing, several_paths, several_words}
use Rattle.vcd_strobe.specs.Named.{FindsRow, IsFirst, IsFound, model_name}
use Rattle.vcd_strobe.proofs.named.clock_of.Goals as goal

pub returns-in_err-row : goal.returns-in_err-row
returns-in_err-row c = λ h views.
    let name = model_name c.args.name.now in
    let word : c.deref.result.now ≡ string_bytes c.args.name.now.word = search rules in
    let e : c.from_residual.result ≡ Err c.in_err-row.field-0.0 = search rules in
    rw e (several_words h name c.in_err-row.field-0.0 (subst (λ w. FindsRow h w (Err c.in_err-row.field-0.0)) word (c.in_err-row.ensures h views)))

pub returns-in-Some : goal.returns-in-Some
returns-in-Some c = λ h views.
    let name = model_name c.args.name.now in
    let word : c.deref.result.now ≡ string_bytes c.args.name.now.word = search rules in
    let is : IsFirst h (variables_at h name.word) (Some c.in-Some.row) = subst (IsFirst h (variables_at h name.word)) c.in-Some.is
    (subst (λ w. FindsRow h w (Ok c.in_ok-row.field-0)) word (c.in_ok-row.ensures h views)) in
    subst (λ a. IsFound h a c.bit_of.result) (sym (by_word h name c.in-Some.row is)) (c.bit_of.ensures h is.0 views is.2)

pub returns-in_err-row-2 : goal.returns-in_err-row-2
returns-in_err-row-2 c = λ h views.
    let name = model_name c.args.name.now in
    let word : c.deref.result.now ≡ string_bytes c.args.name.now.word = search rules in
    let path : c.deref-2.result.now ≡ string_bytes c.args.name.now.path = search rules in
    let none : variables_at h name.word ≡ [] = subst (IsFirst h (variables_at h name.word)) c.in_default.is
    (subst (λ w. FindsRow h w (Ok c.in_ok-row.field-0)) word (c.in_ok-row.ensures h views)) in
    let e : c.from_residual-in_err-row-2.result ≡ Err c.in_err-row-2.field-0.0 = search rules in
    rw e (several_paths h name none c.in_err-row-2.field-0.0 (subst (λ w. FindsRow h w (Err c.in_err-row-2.field-0.0)) path (c.in_err-row-2.ensures h views)))

pub returns-in-Some-2 : goal.returns-in-Some-2
returns-in-Some-2 c = λ h views.
    let name = model_name c.args.name.now in
    let word : c.deref.result.now ≡ string_bytes c.args.name.now.word = search rules in
    let path : c.deref-2.result.now ≡ string_bytes c.args.name.now.path = search rules in
    let none : variables_at h name.word ≡ [] = subst (IsFirst h (variables_at h name.word)) c.in_default.is
    (subst (λ w. FindsRow h w (Ok c.in_ok-row.field-0)) word (c.in_ok-row.ensures h views)) in
    let is : IsFirst h (variables_at h name.path) (Some c.in-Some-2.row) = subst (IsFirst h (variables_at h name.path)) c.in-Some-2.is
    (subst (λ w. FindsRow h w (Ok c.in_ok-row-2.field-0)) path (c.in_ok-row-2.ensures h views)) in
    subst (λ a. IsFound h a c.bit_of-in-Some-2.result) (sym (by_path h name none c.in-Some-2.row is)) (c.bit_of-in-Some-2.ensures h is.0 views is.2)

pub returns-in-None : goal.returns-in-None
returns-in-None c = λ h views.
    let name = model_name c.args.name.now in
    let word : c.deref.result.now ≡ string_bytes c.args.name.now.word = search rules in
    let path : c.deref-2.result.now ≡ string_bytes c.args.name.now.path = search rules in
    let none : variables_at h name.word ≡ [] = subst (IsFirst h (variables_at h name.word)) c.in_default.is
    (subst (λ w. FindsRow h w (Ok c.in_ok-row.field-0)) word (c.in_ok-row.ensures h views)) in
    missing h name none (subst (IsFirst h (variables_at h name.path)) c.in-None.is (subst (λ w. FindsRow h w (Ok c.in_ok-row-2.field-0)) path (c.in_ok-row-2.ensures h views)))
