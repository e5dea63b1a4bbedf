-- What `strobe` writes is a dump.
use Rattle.vcd_laws.proofs.Cited.{Bool, Contains, List, None, Option, Some, [], ap, arith, codes, decimal, false, flat_map, refl, subst, sym, true, ℕ, ◌++◌, ◌+◌, ◌==◌, ◌↔◌, ◌∙◌, ◌∷◌, ◌≡◌, ◌≤◌, AllByRecursion, input_of, most_declared, Opens, given, AreCodes, lines_words, item_tokens, texts_from, texts_of-tokens, declared_code, IdCode, Header, Input, BodyItem, Opened, Outcome, declarations_allowed, fault_in, items_in, Fault, phrases_of, first_halt}
use Rattle.vcd_model.specs.Header.{header_of}
use Rattle.vcd_model.specs.HeaderReading.{read_header}
use Rattle.vcd_model.specs.Compare.{fault_after}
use Rattle.vcd_model.specs.Outcome.{fault_text}
use Rattle.vcd_model.specs.Strobe.{Clock, Strobe, at_end, clocks_of, edges_in, strobe, strobe_codes, strobe_dump, strobe_head, strobe_open}
use Rattle.vcd_laws.specs.Strobes.{GivesEdges, IsReadableStrobe, IsStrobeHead, KeepsEdges, StrobeIsADump, written_codes}
use Rattle.vcd_laws.proofs.OpenedBodies.{opened_fit, opens_good}
use Rattle.vcd_laws.proofs.WrittenCodes.{found_same, from_contained, to_contained}
use Rattle.vcd_laws.proofs.HeadersGood.{IsGoodHeader}
use Rattle.vcd_laws.proofs.HeadBack.{opens_header}
use Rattle.vcd_laws.proofs.ShortTokens.{AllShort, not_halted}
use Rattle.vcd_laws.proofs.ShortBodies.{opened_short, short_items}
use Rattle.vcd_laws.proofs.DumpLaws.{IsReadAgain, read_again, whole_stream}
use Rattle.vcd_laws.proofs.StrobeEdges.{edges_are}
use Rattle.vcd_laws.proofs.StrobeFacts.{IsCode, own_codes, time_declared}
use Rattle.vcd_laws.proofs.StrobeCounts.{few_edges}
use Rattle.vcd_laws.proofs.StrobeKeeps.{all_text, edges_text, keeps_edges, open_is, written_fit, written_items}
use Rattle.vcd_laws.proofs.StrobeHead.{IsStrobeRead, strobe_read}
use Rattle.vcd_laws.proofs.StrobeShort.{edges_short, strobe_short}

-- ---- a strobe

module _ (h : Header) (names : List (List ℕ)) (good : IsGoodHeader h) (found : AreCodes h.codes) where
  again : (cs : List IdCode) → AllByRecursion (IsCode h names) cs
      → AllByRecursion (λ c. declared_code (written_codes h names) c.text ≡ Some c) cs
  again [] all = tt
  again (c ∷ cs) all = let code = all.0 in (code.again, again cs all.1)

  written_found : AllByRecursion (λ c. declared_code (written_codes h names) c.text ≡ Some c)
      (written_codes h names)
  written_found = (
    time_declared h names good found,
    again (strobe_codes h names) (own_codes h names good found),
  )

  -- such a text is such a dump
  strobe_again : (limit : ℕ) (ks : List Clock) (items : List BodyItem) (whole text : List ℕ)
      → whole ≡ strobe_head h names ++ text → KeepsEdges ks h names items text
      → first_halt limit (input_of whole) ≡ None → most_declared h + 3 ≤ declarations_allowed
      → (dump : Opened) × Opens limit (input_of whole) dump × IsStrobeHead h names dump.header
      × (fault_in dump ≡ None) × GivesEdges ks h names items (items_in dump)
  strobe_again limit ks items whole text e keeps given few =
      let read : IsStrobeRead h names good found (whole_stream whole)
      (read_header declarations_allowed (whole_stream whole)) text =
      strobe_read h names good found declarations_allowed (whole_stream whole) text few
      (texts_of-tokens whole ∙ ap (texts_from true) e) in
      let k = header_of (phrases_of (read_header declarations_allowed
      (whole_stream whole)).placed) in
      let codes : (c : IdCode) → Contains k.codes c ↔ Contains (written_codes h names) c =
      let head = read.head in head.codes in
      let back : IsReadAgain limit whole text (written_codes h names) k =
      read_again limit whole text (written_codes h names) given read.whole read.left
      (λ fine. found_same k.codes (written_codes h names) fine.found written_found
      (λ c i. from_contained (written_codes h names) c
      ((codes c).0 (to_contained k.codes c i)))
      (λ c i. from_contained k.codes c
      ((codes c).1 (to_contained (written_codes h names) c i)))) keeps.whole in (
        back.dump,
        back.opens,
        subst (IsStrobeHead h names) (sym back.header) read.head,
        back.body,
        subst (GivesEdges ks h names items) (sym back.items) keeps.edges,
      )

-- the output of a run that is not refused
output_is : (q : Strobe) (limit : ℕ) (name : List ℕ) (input : Input) (o : Opened)
    → IsReadableStrobe q limit name input o
    → (strobe q limit name input).output
    ≡ strobe_open (clocks_of o.header q.clocks) o.header q.names (items_in o)
unfolding strobe strobe_dump
output_is q limit name input o can =
    rw (can.opens, strobe, can.clocks, strobe_dump, can.names) (by_fault (fault_in o))
  where
    text : List ℕ
    text = strobe_open (clocks_of o.header q.clocks) o.header q.names (items_in o)

    fault_or : Fault → Bool → Outcome
    fault_or f b = elim b [
      | true ↦ record { output = text; message = name ++ codes ": read failed"; status = 3 }
      | false ↦ record {
        output = text;
        message = name ++ codes ":" ++ decimal f.line ++ codes ": " ++ fault_text f.number;
        status = 1;
      }
    ]

    answer : Option Fault → Outcome
    answer f = elim f [
      | Some x ↦ fault_after text name x
      | None ↦ at_end name (edges_in (clocks_of o.header q.clocks) (items_in o)) text
    ]

    ended : (edges : List (List BodyItem)) → (at_end name edges text).output ≡ text
    ended [] = refl
    ended (edge ∷ edges) = refl

    written : (f : Fault) (b : Bool) → (fault_or f b).output ≡ text
    written f true = refl
    written f false = refl

    by_fault : (f : Option Fault) → (answer f).output ≡ text
    by_fault None = ended (edges_in (clocks_of o.header q.clocks) (items_in o))
    by_fault (Some x) = written x (x.number == 31)

pub strobe_is_a_dump : StrobeIsADump
strobe_is_a_dump q limit name input o can =
    let opens = can.opens in
    let input_good = opens_good limit input o opens in
    let good = opens_header limit input o opens in
    let found = input_good.codes in
    let fit = opened_fit o input_good in
    let ks = clocks_of o.header q.clocks in
    let items = items_in o in
    let few = few_edges limit input o ks opens in
    let text = edges_text o.header q.names good found ks items fit few in
    let body = written_items o.header q.names good found ks items fit few in
    let whole : (strobe q limit name input).output ≡ strobe_head o.header q.names ++ text =
    output_is q limit name input o can
    ∙ open_is o.header q.names good found ks items fit few in
    let short = opened_short limit input o opens in
    let small = short_items limit o (omega (arith, can.least)) short in
    let tokens : texts_from true text ≡ flat_map item_tokens body =
    ap (texts_from true) (all_text o.header q.names [] (edges_in ks items))
    ∙ lines_words (written_codes o.header q.names) 0 false body
    (written_fit o.header q.names good found ks items fit few) in
    let given : first_halt limit (input_of (strobe q limit name input).output) ≡ None =
    not_halted limit (strobe q limit name input).output can.bytes
    (subst (λ (l : List ℕ). AllShort limit (texts_from true l)) (sym whole)
    (strobe_short limit can.least o.header q.names good found can.fits text short.header
    (subst (AllShort limit) (sym tokens)
    (edges_short limit can.least o.header q.names good found can.fits items fit small
    (edges_in ks items) few (edges_are ks items))))) in
    let d = strobe_again o.header q.names good found limit ks items
    (strobe q limit name input).output text whole
    (keeps_edges o.header q.names good found ks items fit few) given can.few in
    record { dump = d.0; opens = d.1; head = d.2; whole = d.3; edges = d.4 }
