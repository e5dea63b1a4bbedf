-- The law on the jobs that words ask for.
use Rattle.std.specs.Prelude.{◌≡◌, ◌≤◌, Option, Ok}
use Rattle.vcd_model.specs.Job.{IsJob}
use Rattle.vcd_model.specs.Words.{Words, Job, job_of}

-- what the words of a command line ask for can be asked for, and its token limit is in range
abbrev pub JobsAreValid : Type 0
JobsAreValid = (words : Option Words) (job : Job) → job_of words ≡ Ok job
    → IsJob job.want × (64 ≤ job.limit) × (job.limit ≤ 16777216)
