-- What is wanted, as a task over the items of a body.
use Rattle.std.specs.Prelude.{Option, Some, None, Result, Ok, Err}
use Rattle.vcdkit.specs.Cited.{Request, HasRoomFor, Room, Task, HeadView, model_refusal, Want, Refusal}
use Rattle.vcd_engine.specs.Engine.{request_of}
use Rattle.vcd_model.specs.Job as model
use Rattle.vcd_words.specs.declared.job.Want.TheVariants as want

-- the request of a cut in ticks, or why it is refused
abbrev pub cut_request : Result Task Refusal → Result Request model.Refusal
cut_request (Ok task) = Ok (request_of task)
cut_request (Err why) = Err (model_refusal why)

-- the request, if there is no task over the items of one body
abbrev pub taskless : Want → Request
taskless want.Merge = Request.Merge
taskless want = Request.Listing

-- the request of a task over items, and that of a list if there is none
abbrev pub request_for : Option Task → Request
request_for (Some task) = request_of task
request_for None = Request.Listing

-- the room is enough for the task, if there is one, over the header that is shown
abbrev pub IsEnough : Option Task → HeadView → Room → Type 0
IsEnough (Some task) v r = HasRoomFor task v r
IsEnough None v r = Unit {0}

-- the request of a task over items, the request of what is no task, or why the request is refused
abbrev pub task_request : Want → Result (Option Task) Refusal → Result Request model.Refusal
task_request want (Ok (Some task)) = Ok (request_of task)
task_request want (Ok None) = Ok (taskless want)
task_request want (Err why) = Err (model_refusal why)
