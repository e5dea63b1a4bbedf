-- No end has a status above 3.
use Rattle.vcdkit.proofs.Cited.{◌≤◌, ◌≡◌, ℕ, List, arith, refl, Result, Ok, Err, Write, Failure, Stopped, Refusal, Answer, Answers, Refused, Status, end_status}
use Rattle.vcd_words.specs.declared.refusal.Refusal.TheVariants as refusal
use Rattle.vcdkit.specs.Calls.{speech_with}

pub end-low : (asked names : List (List ℕ)) (end : Result (Answer Refusal) Failure) → Answers (λ n. n ≡ 0) end → end_status (speech_with asked) names end ≤ 3
end-low asked names (Ok (Status n)) may = (may n refl).1
end-low asked names (Ok (Refused refusal.NoTimescale)) may = omega arith
end-low asked names (Ok (Refused why)) may = omega arith
end-low asked names (Err (Stopped Write)) may = omega arith
end-low asked names (Err failure) may = omega arith
