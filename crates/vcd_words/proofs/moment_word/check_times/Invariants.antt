use Rattle.vcd_words.proofs.Cited.{◌≡◌, ℕ, List, map, Ok, Bor, IsOrderOf}
use Rattle.vcd_model.specs.Ticks as model_ticks
use Rattle.vcd_model.specs.Words as model
use Rattle.vcd_words.proofs.moment_word.check_times.Given as goal

abbrev pub invariant-loop-word : goal.invariant-loop-word
invariant-loop-word l =
    (goal.iterator-loop-word).can_next l.word-iterator ×
    (goal.iterator-loop-word).is_finite l.word-iterator ×
    ((times : List model_ticks.Moment) × (model.times_of (map (λ (word : Bor (List ℕ)). word.now) l.yielded) ≡ Ok times) × IsOrderOf times l.order)
