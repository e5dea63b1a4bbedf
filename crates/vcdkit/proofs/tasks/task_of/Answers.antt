use Rattle.vcdkit.proofs.Cited.{◌≡◌, false, true, map, refl, string_bytes, rises_at, is_asked, has_units, Sample, asked_pairs, asked_rises, asked_some, plain_request}
use Rattle.vcd_model.specs.Job.{request_of}
use Rattle.vcdkit.proofs.tasks.task_of.Goals as goal

pub returns-in-Check-clause-request : goal.returns-in-Check-clause-request
unfolding request_of
returns-in-Check-clause-request c = λ h v. rw c.in-Check.is refl

pub returns-in-List-clause-request : goal.returns-in-List-clause-request
unfolding request_of
returns-in-List-clause-request c = λ h v. rw c.in-List.is refl

pub returns-in-Merge-clause-request : goal.returns-in-Merge-clause-request
unfolding request_of
returns-in-Merge-clause-request c = λ h v. rw c.in-Merge.is refl

pub returns-in-Pick-clause-request : goal.returns-in-Pick-clause-request
unfolding request_of
returns-in-Pick-clause-request c = λ h v. rw (c.in-Pick.is, c.as_slice.ensures.value) refl

pub returns-in_ok-cut_task-in-Cut-clause-request : goal.returns-in_ok-cut_task-in-Cut-clause-request
returns-in_ok-cut_task-in-Cut-clause-request c = λ h v. rw c.in-Cut.is (c.in_ok-cut_task-in-Cut.ensures.request h v)

pub returns-in-Sample-clause-request : goal.returns-in-Sample-clause-request
returns-in-Sample-clause-request c = λ h v.
    let ns = c.in-Sample.numbers in
    let us = c.in-Sample.field-1 in
    let none : has_units us.items ≡ false = rw c.in-Sample.is at c.requires.ticks in
    let told : is_asked (Sample ns us c.in-Sample.names) ≡ true = rw c.in-Sample.is at c.requires.asked in
    rw (c.in-Sample.is, c.as_slice-in-Sample.ensures.value, c.as_slice-in-Sample-2.ensures.value)
    (plain_request h.scale ns.items us.items (map string_bytes c.in-Sample.names.items) (asked_pairs ns.items us.items told) none)

pub returns-in-Sample-clause-valid : goal.returns-in-Sample-clause-valid
returns-in-Sample-clause-valid c =
    let ns = c.in-Sample.numbers in
    let us = c.in-Sample.field-1 in
    let none : has_units us.items ≡ false = rw c.in-Sample.is at c.requires.ticks in
    let told : is_asked (Sample ns us c.in-Sample.names) ≡ true = rw c.in-Sample.is at c.requires.asked in
    rw c.as_slice-in-Sample.ensures.value (asked_some ns.items us.items told, rises_at ns.items (asked_rises ns.items us.items told none))

pub returns-in-Edges-clause-request : goal.returns-in-Edges-clause-request
unfolding request_of
returns-in-Edges-clause-request c = λ h v. rw (c.in-Edges.is, c.as_slice-in-Edges.ensures.value) refl
