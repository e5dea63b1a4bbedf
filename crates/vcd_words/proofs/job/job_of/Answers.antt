use Rattle.vcd_words.proofs.Cited.{◌≡◌, ◌∙◌, ap, codes, option_map, rules, subst, sym, ℕ, Result, Err, None, Some, model_want, command_used, complete, word_after, words_command, IsFaultIn}
use Rattle.vcd_words.proofs.Facts.{job-is, limit-fault, no-job, want-fault}
use Rattle.vcd_model.specs.Words as model
use Rattle.vcd_words.proofs.job.job_of.Goals as goal

pub returns-in_default-clause-fault : goal.returns-in_default-clause-fault
returns-in_default-clause-fault c =
    let none : None ≡ complete (command_used c.args.matches.now) = ap (option_map words_command) (sym c.in_default.is) ∙ c.words_in.ensures in
    no-job (command_used c.args.matches.now) (word_after c.args.matches.now (codes "token-limit")) none

pub returns-in_err-limit-clause-fault : goal.returns-in_err-limit-clause-fault
returns-in_err-limit-clause-fault c =
    let found : Some (words_command c.in-Some.words) ≡ complete (command_used c.args.matches.now) = ap (option_map words_command) (sym c.in-Some.is) ∙ c.words_in.ensures in
    let same : c.from_residual.result ≡ Err c.in_err-limit.field-0.0 = search rules in
    let fault = subst (λ (asked : Result ℕ model.UseFault). IsFaultIn c.in_err-limit.field-0.0 asked) (ap model.limit_of c.limit_word.ensures) c.in_err-limit.ensures.fault in
    rw same (limit-fault (command_used c.args.matches.now) (word_after c.args.matches.now (codes "token-limit")) c.in-Some.words c.in_err-limit.field-0.0 found fault)

pub returns-in_err-task-clause-fault : goal.returns-in_err-task-clause-fault
returns-in_err-task-clause-fault c =
    let found : Some (words_command c.in-Some.words) ≡ complete (command_used c.args.matches.now) = ap (option_map words_command) (sym c.in-Some.is) ∙ c.words_in.ensures in
    let same : c.from_residual-in_err-task.result ≡ Err c.in_err-task.field-0.0 = search rules in
    rw same (want-fault (command_used c.args.matches.now) (word_after c.args.matches.now (codes "token-limit")) c.in-Some.words c.in_ok-limit.limit c.in_err-task.field-0.0 found
    (ap model.limit_of (sym c.limit_word.ensures) ∙ c.in_ok-limit.ensures.limit) c.in_err-task.ensures.fault)

pub returns-clause-job : goal.returns-clause-job
returns-clause-job c =
    let found : Some (words_command c.in-Some.words) ≡ complete (command_used c.args.matches.now) = ap (option_map words_command) (sym c.in-Some.is) ∙ c.words_in.ensures in
    job-is (command_used c.args.matches.now) (word_after c.args.matches.now (codes "token-limit")) c.in-Some.words (model_want c.in_ok-task.task) c.in_ok-limit.limit found
    (ap model.limit_of (sym c.limit_word.ensures) ∙ c.in_ok-limit.ensures.limit) c.in_ok-task.ensures.want
