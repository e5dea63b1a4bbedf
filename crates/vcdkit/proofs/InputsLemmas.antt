-- The headers of inputs in order: what was read of each input, and how the definitions open them.
use Rattle.vcdkit.proofs.Cited.{is_over, is_settled_at, HeaderPhrase, header_of, header_grammar, phrases_of, reading_of, Ending, Reading, Placed, AtEnd, IsWhole, whole-more, ◌≡◌, ◌==◌, ℕ, suc, ◌+◌, Bool, false, ◌++◌, inl, inr, List, [], ◌∷◌, length, map, Some, None, Ok, Err, refl, sym, ap, ap₂, subst, ◌∙◌, arith, length-append, length_push, Input, Want, is_settled_behind, is_settled_by, Header, header_fault_of, read_header, Opened, Request, allowed_after, with_opened, Fault, Token, stream_of, whole, Supply, Nothing, AreLeft, AreOpened, IsLeft, Lane, Dump, Read, Failure, Stopped, OutOfMemory, AreBegun, IsBegun, IsWhy, Stops, AreRead, header_behind}
use Rattle.vcd_model.specs.Job.{request_of}
use Rattle.vcd_model.specs.Settled.{is_header_over, is_settled}
use Rattle.vcd_model.specs.Outcome.{open_from}
use Rattle.vcdkit.proofs.NeededLemmas.{AreNeededFrom, ArePassed, header_needed, needed_before, passed_more, shifted, unread_needed}
use Rattle.vcd_job.proofs.HeaderLemmas.{all_read, header_only, header_read, left_since, no_fault, reads_for, rest_read}

-- ---- what settles a run

settled_going : (wanted : Want) (r : Reading HeaderPhrase) (x : Ending) → is_over x ≡ false → is_settled_at wanted r x ≡ false
settled_going wanted r AtEnd e = refl
settled_going wanted r x e = cc

-- and settles no run
pub unsettled_header : (wanted : Want) (most : ℕ) (given : List Token) → is_header_over most given ≡ false → is_settled wanted most given ≡ false
unfolding is_header_over is_settled
unsettled_header wanted most given e = settled_going wanted (reading_of (header_grammar most) given) (reading_of (header_grammar most) given).ending e

-- a whole header leaves it to the tokens after it
pub settled_run : (wanted : Want) (most : ℕ) (given ts : List Token) (placed : List (Placed HeaderPhrase)) → IsWhole (header_grammar most) given placed
    → is_settled wanted most (given ++ ts) ≡ is_settled_by (request_of (header_of (phrases_of placed)).scale wanted) (header_of (phrases_of placed)) ts
unfolding is_settled
settled_run wanted most given ts placed w = rw (whole-more (header_grammar most) given placed ts w) refl

-- ---- how the definitions open an input

-- one whose header has no fault
opened_by : (limit : ℕ) (earlier : List Header) (i : Input) (inputs : List Input) → header_fault_of (stream_of limit i) (read_header (allowed_after earlier) (stream_of limit i)) ≡ None
    → open_from limit earlier (i ∷ inputs) ≡ with_opened (record {
      header = header_behind earlier limit i;
      stream = stream_of limit i;
      rest =
          (read_header (allowed_after earlier) (stream_of limit i)).rest;
    }) (open_from limit (earlier ++ header_behind earlier limit i ∷ []) inputs)
unfolding open_from
opened_by limit earlier i inputs e = rw (e, open_from) refl

-- and one whose header has one
not_opened : (limit : ℕ) (earlier : List Header) (i : Input) (inputs : List Input) (f : Fault)
    → header_fault_of (stream_of limit i) (read_header (allowed_after earlier) (stream_of limit i)) ≡ Some f
    → open_from limit earlier (i ∷ inputs) ≡ Err (length earlier, f)
unfolding open_from
not_opened limit earlier i inputs f e = rw (e, open_from) refl

-- an input whose header was read
opens : (limit chunk : ℕ) (earlier : List Header) (i left : Input) (inputs : List Input) (l : Lane) (s t : Supply) (rest : List Token)
    → IsBegun (allowed_after earlier) limit chunk i l s t → (stream_of limit left).tokens ≡ l.front ++ rest
    → open_from limit earlier (left ∷ inputs) ≡ with_opened (record { header = l.header; stream = stream_of limit left; rest = rest }) (open_from limit (earlier ++ l.header ∷ []) inputs)
opens limit chunk earlier i left inputs l s t rest b e =
    let most = allowed_after earlier in
    let header = header_read most limit chunk i l s t b left rest e in
    let after = rest_read most limit chunk i l s t b left rest e in
    opened_by limit earlier left inputs (no_fault most limit chunk i l s t b left rest e)
    ∙ ap (λ (h : Header). with_opened (record { header = h; stream = stream_of limit left; rest = (read_header most (stream_of limit left)).rest })
    (open_from limit (earlier ++ h ∷ []) inputs)) header
    ∙ ap (λ (ts : List Token). with_opened (record { header = l.header; stream = stream_of limit left; rest = ts }) (open_from limit (earlier ++ l.header ∷ []) inputs)) after

-- ---- what was read of each

-- nothing of these
unread : (settled : ℕ → List Token → Bool) (limit chunk : ℕ) (earlier : List Header) (texts : List (List ℕ)) (old : List Supply)
    → length old ≡ length texts → AreRead settled limit chunk earlier texts old old (map whole texts)
unread settled limit chunk earlier [] old long = refl
unread settled limit chunk earlier (text ∷ texts) [] long = absurd (omega arith)
unread settled limit chunk earlier (text ∷ texts) (s ∷ old) long =
    (inl (refl, refl), Nothing refl, unread settled limit chunk (earlier ++ header_behind earlier limit (whole text) ∷ []) texts old (omega arith))

-- a header alone
module _ (settled : ℕ → List Token → Bool) (on : (most : ℕ) (ts : List Token) → is_header_over most ts ≡ false → settled most ts ≡ false) (limit chunk : ℕ) where
  header_only_of : (earlier : List Header) (text : List ℕ) (texts : List (List ℕ)) (s t : Supply) (old new : List Supply) (inputs : List Input)
      (l : Lane) → IsBegun (allowed_after earlier) limit chunk (whole text) l s t
      → AreRead settled limit chunk (earlier ++ l.header ∷ []) texts old new inputs → AreRead settled limit chunk earlier (text ∷ texts) (s ∷ old) (t ∷ new) (whole text ∷ inputs)
  header_only_of earlier text texts s t old new inputs l b others =
      let most = allowed_after earlier in
      let header = header_read most limit chunk (whole text) l s t b (whole text) b.given_first.0 b.given_first.1 in (
        inl (b.failures, refl),
        reads_for limit chunk s t (whole text) [] (is_header_over most) (settled most) (on most) (header_only most limit chunk (whole text) l s t b t refl),
        subst (λ (h : Header). AreRead settled limit chunk (earlier ++ h ∷ []) texts old new inputs) (sym header) others,
      )

-- the first fault of the headers is this one, or memory ran out
abbrev pub IsFirst : ℕ → List Header → List Input → Failure → Type 0
IsFirst limit earlier inputs (Stopped (Dump input line fault)) = ((fault == 31) ≡ false) × (open_from limit earlier inputs ≡ Err (input, record { number = fault; line = line }))
IsFirst limit earlier inputs (Stopped (Read input)) = (line : ℕ) × (open_from limit earlier inputs ≡ Err (input, record { number = 31; line = line }))
IsFirst limit earlier inputs (Stopped stop) = ⊥
IsFirst limit earlier inputs OutOfMemory = Unit {0}

-- it is that of this input
first_here : (limit : ℕ) (earlier : List Header) (i : Input) (inputs : List Input) (why : Failure)
    → IsWhy (allowed_after earlier) limit (length earlier) i why → IsFirst limit earlier (i ∷ inputs) why
first_here limit earlier i inputs (Stopped (Dump input line fault)) w = (w.1, not_opened limit earlier i inputs _ w.2 ∙ ap (λ n. Err (n, record { number = fault; line = line })) (sym w.0))
first_here limit earlier i inputs (Stopped (Read input)) w = (w.1, not_opened limit earlier i inputs _ w.2 ∙ ap (λ n. Err (n, record { number = 31; line = w.1 })) (sym w.0))
first_here limit earlier i inputs (Stopped stop) w = absurd w
first_here limit earlier i inputs OutOfMemory w = tt

-- or of one after it
first_behind : (limit chunk : ℕ) (earlier : List Header) (i : Input) (inputs : List Input) (l : Lane) (s t : Supply) (why : Failure)
    → IsBegun (allowed_after earlier) limit chunk i l s t → IsFirst limit (earlier ++ l.header ∷ []) inputs why
    → IsFirst limit earlier (i ∷ inputs) why
first_behind limit chunk earlier i inputs l s t (Stopped (Dump input line fault)) b f =
    (f.0, opens limit chunk earlier i i inputs l s t b.given_first.0 b b.given_first.1 ∙ ap (with_opened (record { header = l.header; stream = stream_of limit i; rest = b.given_first.0 })) f.1)
first_behind limit chunk earlier i inputs l s t (Stopped (Read input)) b f =
    (f.0, opens limit chunk earlier i i inputs l s t b.given_first.0 b b.given_first.1 ∙ ap (with_opened (record { header = l.header; stream = stream_of limit i; rest = b.given_first.0 })) f.1)
first_behind limit chunk earlier i inputs l s t (Stopped stop) b f = absurd f
first_behind limit chunk earlier i inputs l s t OutOfMemory b f = tt

-- what is left of inputs whose headers ended the run
pub record HaveStopped (settled : ℕ → List Token → Bool) (limit chunk : ℕ) (earlier : List Header) (texts : List (List ℕ)) (old new : List Supply) (why : Failure) : Type 0 where
  pub lefts : List Input
  pub read : AreRead settled limit chunk earlier texts old new lefts
  pub needed : (all pre : List Input) → all ≡ pre ++ lefts → ArePassed limit pre earlier → AreNeededFrom limit chunk all (length pre) old new lefts
  pub first : IsFirst limit earlier lefts why

module _ (settled : ℕ → List Token → Bool) (on : (most : ℕ) (ts : List Token) → is_header_over most ts ≡ false → settled most ts ≡ false) (limit chunk : ℕ) where
  pub stops_read : (place : ℕ) (earlier : List Header) (texts : List (List ℕ)) (old new : List Supply) (why : Failure) → length earlier ≡ place
      → Stops limit chunk place earlier texts old new why → HaveStopped settled limit chunk earlier texts old new why
  stops_read place earlier (text ∷ texts) (s ∷ old) (t ∷ new) why many (inl h) =
      let most = allowed_after earlier in
      let same = subst (λ (ts : List Supply). AreRead settled limit chunk (earlier ++ header_behind earlier limit h.0.left ∷ []) texts old ts
      (map whole texts)) (sym h.1) (unread settled limit chunk (earlier ++ header_behind earlier limit h.0.left ∷ []) texts old h.2) in
      record {
        lefts = h.0.left ∷ map whole texts;
        read = (h.0.is_left, reads_for limit chunk s t h.0.left [] (is_header_over most) (settled most) (on most) h.0.read, same);
        needed = λ all pre is passed.
            needed_before limit chunk all (length pre) s t h.0.left old new (map whole texts) (header_needed limit chunk all pre (map whole texts) earlier passed h.0.left is s t h.0.read)
            (subst (λ (ts : List Supply). AreNeededFrom limit chunk all (length pre + 1) old ts (map whole texts)) (sym h.1) (unread_needed limit chunk all (length pre + 1) old (map whole texts)));
        first = first_here limit earlier h.0.left (map whole texts) why (subst (λ n. IsWhy most limit n h.0.left why) (sym many) h.0.is_why);
      }
  stops_read place earlier (text ∷ texts) (s ∷ old) (t ∷ new) why many (inr h) =
      let long : length (earlier ++ h.0.header ∷ []) ≡ suc place = omega (arith, length-append earlier (h.0.header ∷ [])) in
      let others = stops_read (suc place) (earlier ++ h.0.header ∷ []) texts old new why long h.2 in
      record {
        lefts = whole text ∷ others.lefts;
        read = header_only_of settled on limit chunk earlier text texts s t old new others.lefts h.0 h.1 others.read;
        needed = λ all pre is passed.
            let one = header_needed limit chunk all pre others.lefts earlier passed (whole text) is s t (header_only (allowed_after earlier) limit chunk (whole text) h.0 s t h.1 t refl) in
            let next = passed_more limit chunk pre earlier (whole text) (whole text) h.0 s t h.1.given_first.0 h.1 h.1.given_first.1 passed in
            let more = others.needed all (pre ++ whole text ∷ []) (is ∙ shifted pre others.lefts (whole text)) next in
            needed_before limit chunk all (length pre) s t (whole text) old new others.lefts one
            (subst (λ (n : ℕ). AreNeededFrom limit chunk all n old new others.lefts) (length_push pre (whole text)) more);
        first = first_behind limit chunk earlier (whole text) others.lefts h.0 s t why h.1 others.first;
      }
  stops_read place earlier texts old new why many stops = absurd stops

-- ---- a merge after the headers

-- what settles an input of a merge after its header
merge_settled : (most : ℕ) (limit chunk : ℕ) (i : Input) (l : Lane) (s t : Supply) (ts : List Token) → IsBegun most limit chunk i l s t
    → is_settled Want.Merge most (l.front ++ ts) ≡ is_settled_behind Request.Merge l.header ts
unfolding request_of
merge_settled most limit chunk i l s t ts b =
    settled_run Want.Merge most l.front ts b.placed b.whole ∙ ap (λ (h : Header). is_settled_by (request_of h.scale Want.Merge) h ts) (sym b.header_is)

-- the definitions open what is left of the inputs, of each of which was read what settles it
pub merged_read : (limit chunk : ℕ) (earlier : List Header) (texts : List (List ℕ)) (old mid new : List Supply) (lanes : List Lane)
    (lefts : List Input) (opened : List Opened) → AreBegun limit chunk earlier texts old mid lanes → AreLeft limit chunk lanes mid new lefts
    → AreOpened limit lanes lefts opened
    → AreRead (is_settled Want.Merge) limit chunk earlier texts old new lefts × (open_from limit earlier lefts ≡ Ok opened)
unfolding open_from
merged_read limit chunk earlier [] [] [] new [] lefts opened b left o = (left, rw (left, o) refl)
merged_read limit chunk earlier (text ∷ texts) (s ∷ old) (t ∷ mid) (u ∷ new) (l ∷ lanes) (i ∷ lefts) (p ∷ opened) b left o =
    let most = allowed_after earlier in
    let others = merged_read limit chunk (earlier ++ l.header ∷ []) texts old mid new lanes lefts opened b.1 left.2 o.2 in
    let is_left = subst (λ (j : Input). IsLeft j t u i) b.0.input_is left.0 in
    let header = header_read most limit chunk (whole text) l s t b.0 i p.rest o.1 in
    let read = all_read most limit chunk (whole text) l s t b.0 (is_settled Want.Merge most) (is_settled_behind Request.Merge l.header)
    (unsettled_header Want.Merge most) (λ ts e. merge_settled most limit chunk (whole text) l s t ts b.0 ∙ e) u i is_left left.1 in
    let since = left_since most limit chunk (whole text) l s t b.0 u i is_left in (
      (since, read, subst (λ (h : Header). AreRead (is_settled Want.Merge) limit chunk (earlier ++ h ∷ []) texts old new lefts) (sym header) others.0),
      opens limit chunk earlier (whole text) i lefts l s t p.rest b.0 o.1 ∙ ap₂ with_opened (sym o.0) others.1,
    )
merged_read limit chunk earlier (text ∷ texts) (s ∷ old) (t ∷ mid) (u ∷ new) (l ∷ lanes) (i ∷ lefts) [] b left o = absurd o
merged_read limit chunk earlier (text ∷ texts) (s ∷ old) (t ∷ mid) new (l ∷ lanes) lefts opened b left o = absurd left
merged_read limit chunk earlier texts old mid new lanes lefts opened b left o = absurd b
