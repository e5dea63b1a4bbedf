-- What `pick` and `cut` wrote of what `pick` and `cut` wrote is a dump of the first input.
use Rattle.vcd_laws.proofs.Cited.{◌≡◌, ℕ, ◌≤◌, true, false, List, [], bytes_eq, Ok, refl, sym, ap, ◌∙◌, subst, IdCode, Header, Selected, selected, selects_code, Moment, moment_ticks, Input, Opened, Want, IsJob, Opens, written_by, IsHeadFor, input_of, IsDumpFor, IsReadable, CutOfPick, PickOfCut, CutOfCut}
use Rattle.vcd_laws.proofs.WrittenCodes.{from_any, any_of}
use Rattle.vcd_laws.proofs.RunLaws.{same_opened}
use Rattle.vcd_laws.proofs.DumpLaws.{pick_is_a_dump, cut_is_a_dump}
use Rattle.vcd_laws.proofs.PickUses.{same_selected}
use Rattle.vcd_laws.proofs.PickedAlone.{in_chosen}
use Rattle.vcd_laws.proofs.CheckOfCut.{same_ok}

-- what names select of a header, some select of what others selected
record SelectAgain (names wanted both : List (List ℕ)) (h k : Header) : Type 0 where
  selection : selected wanted k.declarations ≡ selected both h.declarations
  within : (c : IdCode) → selects_code (selected both h.declarations) c ≡ true
      → selects_code (selected names h.declarations) c ≡ true

head_of_head : (names wanted both : List (List ℕ)) (h k m : Header) → IsHeadFor h names k
    → IsHeadFor k wanted m → SelectAgain names wanted both h k → IsHeadFor h both m
head_of_head names wanted both h k m first second is =
    let here = first.codes in
    let there = second.codes in
    let within = is.within in
    record {
      date = second.date ∙ first.date;
      version = second.version ∙ first.version;
      scale = second.scale ∙ first.scale;
      variables = second.variables ∙ is.selection;
      codes = λ c. (
        λ i.
            let a = (there c).0 i in
            let b = (here c).0 a.0 in
            (b.0, sym (ap (λ vs. selects_code vs c) is.selection) ∙ a.1),
        λ i. (there c).1 (
          (here c).1 (i.0, within c i.1),
          ap (λ vs. selects_code vs c) is.selection ∙ i.1,
        ),
      );
    }

-- a dump of a dump
dump_of_dump : (limit : ℕ) (o k : Opened) (names wanted both : List (List ℕ))
    (Kept Asked Both : ℕ → Type 0) (text other : List ℕ) → IsDumpFor limit o names Kept text
    → Opens limit (input_of text) k → IsDumpFor limit k wanted Asked other
    → ((h : Header) → selected [] h.declarations ≡ selected names o.header.declarations
    → SelectAgain names wanted both o.header h) → ((t : ℕ) → Both t → Kept t × Asked t)
    → IsDumpFor limit o both Both other
dump_of_dump limit o k names wanted both Kept Asked Both text other d opens e is within =
    let same : k ≡ d.dump = same_opened limit (input_of text) k d.dump opens d.opens in
    let again : IsDumpFor limit d.dump wanted Asked other =
    subst (λ (p : Opened). IsDumpFor limit p wanted Asked other) same e in
    let first = d.head in
    let second = again.head in
    let there = second.codes in
    record {
      dump = again.dump;
      opens = again.opens;
      head = head_of_head names wanted both o.header d.dump.header again.dump.header first second
          (is d.dump.header first.variables);
      whole = again.whole;
      values = λ c t i quiet in_time.
          let times = within t in_time in
          again.values c t i quiet times.1 ∙ d.values c t ((there c).0 i).0 quiet times.0;
    }

-- names select no more codes than are selected without names
all_within : (names : List (List ℕ)) (h : Header) (c : IdCode)
    → selects_code (selected names h.declarations) c ≡ true
    → selects_code (selected [] h.declarations) c ≡ true
all_within names h c e =
    let carries = λ (s : Selected). bytes_eq s.variable.code c.text in
    let s = from_any carries (selected names h.declarations) e in
    any_of carries (selected [] h.declarations) s.0 (in_chosen names h s.0 s.1).0 s.2

-- a cut is a dump between its times, whichever way they are named
cut_dump : (limit : ℕ) (name : List ℕ) (from to : Moment) (input : Input) (o : Opened) (a b : ℕ)
    → IsJob (Want.Cut from to) → IsReadable (Want.Cut from to) limit name input o
    → moment_ticks o.header.scale from true ≡ Ok a → moment_ticks o.header.scale to false ≡ Ok b
    → IsDumpFor limit o [] (λ t. (a ≤ t) × (t ≤ b)) (written_by (Want.Cut from to) limit name input)
cut_dump limit name from to input o a b job can first last =
    let text = written_by (Want.Cut from to) limit name input in
    let law = cut_is_a_dump limit name from to input o job can in
    let begins : law.0 ≡ a = same_ok (moment_ticks o.header.scale from true) law.0 a law.2 first in
    let stops : law.1 ≡ b = same_ok (moment_ticks o.header.scale to false) law.1 b law.3 last in
    subst (λ (n : ℕ). IsDumpFor limit o [] (λ t. (a ≤ t) × (t ≤ n)) text) stops
    (subst (λ (n : ℕ). IsDumpFor limit o [] (λ t. (n ≤ t) × (t ≤ law.1)) text) begins law.4)

-- the scale of what was written is that of the input
same_scale : (limit : ℕ) (o k : Opened) (names : List (List ℕ)) (Kept : ℕ → Type 0)
    (text : List ℕ) → IsDumpFor limit o names Kept text → Opens limit (input_of text) k
    → k.header.scale ≡ o.header.scale
same_scale limit o k names Kept text d opens =
    let head = d.head in
    ap (λ (p : Opened). p.header.scale)
    (same_opened limit (input_of text) k d.dump opens d.opens) ∙ head.scale

pub cut_of_pick : CutOfPick
cut_of_pick limit name names from to input o k a b job can again first last =
    let text = written_by (Want.Pick names) limit name input in
    let d = pick_is_a_dump limit name names input o can in
    let scale = same_scale limit o k names (λ t. Unit {0}) text d again.opens in
    let e = cut_dump limit name from to (input_of text) k a b job again
    (ap (λ s. moment_ticks s from true) scale ∙ first)
    (ap (λ s. moment_ticks s to false) scale ∙ last) in
    dump_of_dump limit o k names [] names (λ t. Unit {0}) (λ t. (a ≤ t) × (t ≤ b))
    (λ t. (a ≤ t) × (t ≤ b)) text (written_by (Want.Cut from to) limit name (input_of text)) d
    again.opens e (λ h same. record { selection = same; within = λ c i. i }) (λ t in_time. (tt, in_time))

pub pick_of_cut : PickOfCut
pick_of_cut limit name names from to input o k a b job can again first last =
    let text = written_by (Want.Cut from to) limit name input in
    let d = cut_dump limit name from to input o a b job can first last in
    let e = pick_is_a_dump limit name names (input_of text) k again in
    dump_of_dump limit o k [] names names (λ t. (a ≤ t) × (t ≤ b)) (λ t. Unit {0})
    (λ t. (a ≤ t) × (t ≤ b)) text (written_by (Want.Pick names) limit name (input_of text)) d
    again.opens e
    (λ h same. record {
      selection = same_selected names [] o.header h same (λ s i x. refl);
      within = all_within names o.header;
    }) (λ t in_time. (in_time, tt))

pub cut_of_cut : CutOfCut
cut_of_cut limit name from to start stop input o k a b c d job other can again first last begins
    stops =
    let text = written_by (Want.Cut from to) limit name input in
    let p = cut_dump limit name from to input o a b job can first last in
    let scale = same_scale limit o k [] (λ t. (a ≤ t) × (t ≤ b)) text p again.opens in
    let e = cut_dump limit name start stop (input_of text) k c d other again
    (ap (λ s. moment_ticks s start true) scale ∙ begins)
    (ap (λ s. moment_ticks s stop false) scale ∙ stops) in
    dump_of_dump limit o k [] [] [] (λ t. (a ≤ t) × (t ≤ b)) (λ t. (c ≤ t) × (t ≤ d))
    (λ t. ((a ≤ t) × (t ≤ b)) × ((c ≤ t) × (t ≤ d))) text
    (written_by (Want.Cut start stop) limit name (input_of text)) p again.opens e
    (λ h same. record { selection = same; within = λ x i. i }) (λ t in_time. in_time)
