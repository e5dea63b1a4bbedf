-- The head of a strobe, and how a body begins.
use Rattle.std.proofs.Common.{◌≡◌, ℕ, List, [], ◌++◌, codes, refl, ap, append-nil}
use Rattle.std.proofs.lemmas.List.{append_assoc}
use Rattle.vcd_model.specs.BodyReading.{body_items, read_body}
use Rattle.vcd_model.specs.Header.{Header}
use Rattle.vcd_model.specs.HeadText.{head_for}
use Rattle.vcd_model.specs.Input.{Input}
use Rattle.vcd_model.specs.Strobe.{Clock as ModelClock, bare, edges_in, strobe_head, strobe_open, time_code}
use Rattle.vcd_model.specs.Tokens.{Token}
use Rattle.vcd_text.specs.Feed.{HasGiven, limit_of}
use Rattle.vcd_text.specs.declared.device.Source.{Ghosts}
use Rattle.vcd_text.specs.declared.feed.Feed.{Feed}
use Rattle.vcd_run.specs.Run.{BodyBegins}
use Rattle.vcd_strobe.specs.Heads.{variable_lines}

-- the bytes that are written
pub variable_text : (id : List ℕ) → codes "$scope module strobe $end\n$var time 64 " ++ (id ++ codes " time $end\n$upscope $end\n") ≡ variable_lines id
variable_text id = simp append_assoc

pub head_is : (h : Header) (names : List (List ℕ)) (id : List ℕ) → id ≡ (time_code h).text → variable_lines id ++ head_for (bare h) names ≡ strobe_head h names
unfolding strobe_head
head_is h names id is = ap (λ x. variable_lines x ++ head_for (bare h) names) is

-- before the first item only the head is due
pub open_first : (ks : List ModelClock) (h : Header) (names : List (List ℕ)) → strobe_open ks h names [] ≡ strobe_head h names
unfolding strobe_open edges_in
open_first ks h names = append-nil (strobe_head h names)

-- no item was given yet
pub begins_none : {X : Type 0} {g : Ghosts X} (h : Header) (i : Input) (front : List Token) (f : Feed X g) → HasGiven i front f → BodyBegins h i front (limit_of f) []
begins_none h i front f given = record {
  rest = given.given_first.0;
  tokens = given.given_first.1;
  begins = (body_items (read_body h.codes given.given_first.0), refl);
}
