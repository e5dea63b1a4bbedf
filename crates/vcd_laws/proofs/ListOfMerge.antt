-- `list` of what `merge` wrote has the rows of its inputs.
use Rattle.vcd_laws.proofs.Cited.{◌≡◌, List, [], ◌∷◌, ◌++◌, map, flat_map, refl, ap, ◌∙◌, flat_map-append, each_after, Header, Selected, selected, list_line, headers_of, clean_outcome, dumps_of, Want, outcome, merged_variable, input_of, merged_listing, ListOfMerge}
use Rattle.vcd_model.specs.CheckAndList.{list_text}
use Rattle.vcd_model.specs.Outcome.{over_dump}
use Rattle.vcd_model.specs.Job.{request_of}
use Rattle.vcd_laws.proofs.MergedHead.{merged_selected}
use Rattle.vcd_laws.proofs.RunLaws.{opened_run}
use Rattle.vcd_laws.proofs.DumpLaws.{merge_is_a_dump}

one_listing : (earlier : List Header) (h : Header) (vs : List Selected)
    → flat_map list_line (map (merged_variable earlier h) vs)
    ≡ flat_map (λ s. list_line (merged_variable earlier h s)) vs
one_listing earlier h [] = refl
one_listing earlier h (s ∷ vs) =
    ap (λ l. list_line (merged_variable earlier h s) ++ l) (one_listing earlier h vs)

all_listings : (earlier hs : List Header)
    → flat_map list_line (flat_map (λ vs. vs) (each_after merged_selected earlier hs))
    ≡ flat_map (λ l. l) (each_after merged_listing earlier hs)
all_listings earlier [] = refl
all_listings earlier (h ∷ hs) =
    flat_map-append list_line (merged_selected earlier h)
    (flat_map (λ vs. vs) (each_after merged_selected (earlier ++ h ∷ []) hs))
    ∙ ap (λ l. l ++ flat_map list_line
    (flat_map (λ vs. vs) (each_after merged_selected (earlier ++ h ∷ []) hs)))
    (one_listing earlier h (selected [] h.declarations))
    ∙ ap (λ l. merged_listing earlier h ++ l) (all_listings (earlier ++ h ∷ []) hs)

pub list_of_merge : ListOfMerge
unfolding request_of over_dump list_text
list_of_merge limit name names inputs os can =
    let law = merge_is_a_dump limit names inputs os can in
    let d = law.1 in
    let head = d.head in
    opened_run Want.Listing limit name (input_of (outcome Want.Merge limit names inputs).output)
    d.dump d.opens
    ∙ ap (λ l. clean_outcome (flat_map list_line l)) head.variables
    ∙ ap clean_outcome (all_listings [] (headers_of (dumps_of os)))
