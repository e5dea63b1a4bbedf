-- How much was read of the inputs of a merge, where all of the others are known: no more than what
-- settles it.
use Rattle.vcdkit.proofs.Cited.{◌≡◌, ℕ, zero, suc, ◌+◌, Bool, false, List, [], ◌∷◌, ◌++◌, length, map, slice_get, slice_set, Some, refl, sym, ap, subst, ◌∙◌, arith, append_assoc, length_push, Input, Header, header_of, HeaderPhrase, header_grammar, Ending, Reading, phrases_of, reading_of, AtEnd, is_over, Opened, allowed_after, Token, stream_of, whole-more, Seen, headers_seen, seen_at, seen_before, settles_merge, tokens_seen, whole_of, NotWhole, whole, Supply, ReadsAsNeeded, Nothing, IsLeft, AreLeft, AreOpened, known_first, known_whole, Lane, is_merge, model_want, AreBegun, IsBegun, Want, AreNeeded, known, settles_among}
use Rattle.vcd_model.specs.Settled.{is_header_over}
use Rattle.vcd_model.specs.SettledMerge.{is_settled_merge}
use Rattle.vcd_model.specs.SettledMerge.SeenHeaders.{Whole}
use Rattle.vcd_merge.specs.MergeRun as merge
use Rattle.vcd_words.specs.declared.job.Want as words
use Rattle.vcd_words.specs.declared.job.Want.TheVariants as want
use Rattle.vcd_job.proofs.HeaderLemmas.{all_read, reads_for}

-- ---- lists

set_at : (limit : ℕ) (pre post : List Input) (i : Input) (s : Seen) → slice_set (known limit (pre ++ i ∷ post)) (length pre) s ≡ known limit pre ++ s ∷ known limit post
set_at limit [] post i s = refl
set_at limit (p ∷ pre) post i s = ap (λ (l : List Seen). Seen.All (stream_of limit p) ∷ l) (set_at limit pre post i s)

known_push : (limit : ℕ) (pre : List Input) (i : Input) (ss : List Seen) → known limit (pre ++ i ∷ []) ++ ss ≡ known limit pre ++ Seen.All (stream_of limit i) ∷ ss
known_push limit [] i ss = refl
known_push limit (p ∷ pre) i ss = ap (λ (l : List Seen). Seen.All (stream_of limit p) ∷ l) (known_push limit pre i ss)

-- ---- what is known of headers

-- the headers of these inputs are whole, and are these: what is not whole after them is not whole
abbrev pub ArePassed : ℕ → List Input → List Header → Type 0
ArePassed limit pre earlier = (ss : List Seen) → headers_seen earlier ss ≡ NotWhole → headers_seen [] (known limit pre ++ ss) ≡ NotWhole

-- an input whose tokens begin with those of a whole header
seen_header : (most limit chunk : ℕ) (earlier : List Header) (i : Input) (l : Lane) (s t : Supply) (b : IsBegun most limit chunk i l s t)
    (seen : Seen) (rest : List Token) (ss : List Seen) → most ≡ allowed_after earlier → tokens_seen seen ≡ l.front ++ rest
    → headers_seen earlier (seen ∷ ss) ≡ seen_before (record { header = l.header; rest = rest; whole = whole_of seen }) (headers_seen (earlier ++ l.header ∷ []) ss)
seen_header most limit chunk earlier i l s t b seen rest ss allowed tokens =
    let reading = ap (λ (n : ℕ). reading_of (header_grammar n) (tokens_seen seen)) (sym allowed) ∙ ap (reading_of (header_grammar most)) tokens
    ∙ whole-more (header_grammar most) l.front b.placed rest b.whole in
    ap (λ (r : Reading HeaderPhrase). seen_at seen r r.ending (headers_seen (earlier ++ header_of (phrases_of r.placed) ∷ []) ss)) reading
    ∙ ap (λ (h : Header). seen_before (record { header = h; rest = rest; whole = whole_of seen }) (headers_seen (earlier ++ h ∷ []) ss)) (sym b.header_is)

-- one whose header continues
seen_going : (earlier : List Header) (ts : List Token) (ss : List Seen) → is_header_over (allowed_after earlier) ts ≡ false → headers_seen earlier (Seen.First ts ∷ ss) ≡ NotWhole
unfolding is_header_over
seen_going earlier ts ss going =
    let r = reading_of (header_grammar (allowed_after earlier)) ts in
    by_ending r.ending going
  where
    by_ending : (x : Ending) → is_over x ≡ false → seen_at (Seen.First ts) (reading_of (header_grammar (allowed_after earlier)) ts) x
        (headers_seen (earlier ++ header_of (phrases_of (reading_of (header_grammar (allowed_after earlier)) ts).placed) ∷ []) ss) ≡ NotWhole
    by_ending AtEnd e = refl
    by_ending x e = cc

-- so nothing is settled
going_open : (limit : ℕ) (all pre post : List Input) (i : Input) (earlier : List Header) (ts : List Token) → all ≡ pre ++ i ∷ post
    → ArePassed limit pre earlier → is_header_over (allowed_after earlier) ts ≡ false → settles_among limit all (length pre) ts ≡ false
unfolding is_settled_merge
going_open limit all pre post i earlier ts e passed going =
    ap (λ (is : List Input). settles_merge (headers_seen [] (slice_set (known limit is) (length pre) (Seen.First ts)))) e
    ∙ ap (λ (ss : List Seen). settles_merge (headers_seen [] ss)) (set_at limit pre post i (Seen.First ts))
    ∙ ap settles_merge (passed (Seen.First ts ∷ known limit post) (seen_going earlier ts (known limit post) going))

pub passed_more : (limit chunk : ℕ) (pre : List Input) (earlier : List Header) (i left : Input) (l : Lane) (s t : Supply) (rest : List Token)
    → IsBegun (allowed_after earlier) limit chunk i l s t → (stream_of limit left).tokens ≡ l.front ++ rest → ArePassed limit pre earlier
    → ArePassed limit (pre ++ left ∷ []) (earlier ++ l.header ∷ [])
passed_more limit chunk pre earlier i left l s t rest b tokens passed = λ ss none.
    ap (headers_seen []) (known_push limit pre left ss)
    ∙ passed (Seen.All (stream_of limit left) ∷ ss)
    (seen_header (allowed_after earlier) limit chunk earlier i l s t b (Seen.All (stream_of limit left)) rest ss refl tokens
    ∙ ap (seen_before (record { header = l.header; rest = rest; whole = Some (stream_of limit left) })) none)

-- ---- headers alone

-- of the inputs from this index on, no more was read than what settles a merge of all of them
abbrev pub AreNeededFrom : (limit chunk : ℕ) → (all : List Input) → ℕ → (old new : List Supply) → List Input → Type 0
AreNeededFrom limit chunk all n old new inputs = (k : ℕ) (s t : Supply) (i : Input) → slice_get old k ≡ Some s → slice_get new k ≡ Some t
    → slice_get inputs k ≡ Some i → ReadsAsNeeded limit chunk s t i [] (settles_among limit all (n + k))

-- one more before others
pub needed_before : (limit chunk : ℕ) (all : List Input) (n : ℕ) (s t : Supply) (i : Input) (old new : List Supply) (inputs : List Input)
    → ReadsAsNeeded limit chunk s t i [] (settles_among limit all n) → AreNeededFrom limit chunk all (n + 1) old new inputs
    → AreNeededFrom limit chunk all n (s ∷ old) (t ∷ new) (i ∷ inputs)
needed_before limit chunk all n s t i old new inputs one others = λ k s' t' i' a b c. by_place k s' t' i' a b c
  where
    by_place : AreNeededFrom limit chunk all n (s ∷ old) (t ∷ new) (i ∷ inputs)
    by_place zero s' t' i' a b c =
        let z : n ≡ n + 0 = omega arith in
        let es : s ≡ s' = cc in
        let et : t ≡ t' = cc in
        let ei : i ≡ i' = cc in
        subst (λ (m : ℕ). ReadsAsNeeded limit chunk s' t' i' [] (settles_among limit all m)) z
        (subst (λ (x : Input). ReadsAsNeeded limit chunk s' t' x [] (settles_among limit all n)) ei
        (subst (λ (x : Supply). ReadsAsNeeded limit chunk s' x i [] (settles_among limit all n)) et
        (subst (λ (x : Supply). ReadsAsNeeded limit chunk x t i [] (settles_among limit all n)) es one)))
    by_place (suc k) s' t' i' a b c =
        let z : n + 1 + k ≡ n + suc k = omega arith in
        subst (λ (m : ℕ). ReadsAsNeeded limit chunk s' t' i' [] (settles_among limit all m)) z (others k s' t' i' a b c)

-- nothing of these
pub unread_needed : (limit chunk : ℕ) (all : List Input) (n : ℕ) (old : List Supply) (inputs : List Input) → AreNeededFrom limit chunk all n old old inputs
unread_needed limit chunk all n old inputs k s t i a b c = let both : Some t ≡ Some s = sym b ∙ a in let same : t ≡ s = cc in Nothing same

-- a header alone
module _ (limit chunk : ℕ) (all pre post : List Input) (earlier : List Header) (passed : ArePassed limit pre earlier) (i : Input) (is : all ≡ pre ++ i ∷ post) where
  going : (ts : List Token) → is_header_over (allowed_after earlier) ts ≡ false → settles_among limit all (length pre) ts ≡ false
  going ts e = going_open limit all pre post i earlier ts is passed e

  pub header_needed : (old new : Supply) → ReadsAsNeeded limit chunk old new i [] (is_header_over (allowed_after earlier))
      → ReadsAsNeeded limit chunk old new i [] (settles_among limit all (length pre))
  header_needed old new read = reads_for limit chunk old new i [] (is_header_over (allowed_after earlier)) (settles_among limit all (length pre)) going read

pub shifted : (pre more : List Input) (i : Input) → pre ++ i ∷ more ≡ (pre ++ i ∷ []) ++ more
shifted pre more i = sym (append_assoc pre (i ∷ []) more)

pub none_passed : (limit : ℕ) → ArePassed limit [] []
none_passed limit = λ ss e. e

-- ---- a merge after the headers

-- the headers and what is known after them
module _ (limit chunk : ℕ) where
  all_known : (earlier : List Header) (texts : List (List ℕ)) (old mid new : List Supply) (lanes : List Lane) (lefts : List Input)
      (opened : List Opened) → AreBegun limit chunk earlier texts old mid lanes → AreLeft limit chunk lanes mid new lefts
      → AreOpened limit lanes lefts opened
      → headers_seen earlier (known limit lefts) ≡ Whole (map known_whole opened)
  all_known earlier [] [] [] new [] lefts opened b left o = rw (left, o) refl
  all_known earlier (text ∷ texts) (s ∷ old) (t ∷ mid) (u ∷ new) (l ∷ lanes) (i ∷ lefts) (p ∷ opened) b left o =
      seen_header (allowed_after earlier) limit chunk earlier (whole text) l s t b.0 (Seen.All (stream_of limit i)) p.rest (known limit lefts) refl o.1
      ∙ ap (seen_before (record { header = l.header; rest = p.rest; whole = Some (stream_of limit i) })) (all_known (earlier ++ l.header ∷ []) texts old mid new lanes lefts opened b.1 left.2 o.2)
      ∙ ap (λ (q : Opened). Whole (known_whole q ∷ map known_whole opened)) (sym o.0)
  all_known earlier (text ∷ texts) (s ∷ old) (t ∷ mid) [] (l ∷ lanes) lefts opened b left o = absurd left
  all_known earlier (text ∷ texts) (s ∷ old) (t ∷ mid) (u ∷ new) (l ∷ lanes) [] opened b left o = absurd left
  all_known earlier (text ∷ texts) (s ∷ old) (t ∷ mid) (u ∷ new) (l ∷ lanes) (i ∷ lefts) [] b left o = absurd o
  all_known earlier texts old mid new lanes lefts opened b left o = absurd b

  -- and where of one of them these first tokens are known after its header
  first_known : (earlier : List Header) (texts : List (List ℕ)) (old mid new : List Supply) (lanes : List Lane) (lefts : List Input)
      (opened : List Opened) → AreBegun limit chunk earlier texts old mid lanes → AreLeft limit chunk lanes mid new lefts
      → AreOpened limit lanes lefts opened
      → (k : ℕ) (l : Lane) (ts : List Token) → slice_get lanes k ≡ Some l
      → headers_seen earlier (slice_set (known limit lefts) k (Seen.First (l.front ++ ts))) ≡ Whole
      (slice_set (map known_whole opened) k (known_first l.header ts))
  first_known earlier [] [] [] new [] lefts opened b left o k l ts at = cc
  first_known earlier (text ∷ texts) (s ∷ old) (t ∷ mid) (u ∷ new) (m ∷ lanes) (i ∷ lefts) (p ∷ opened) b left o zero l ts at =
      let same : m ≡ l = cc in
      subst (λ (n : Lane). headers_seen earlier (Seen.First (n.front ++ ts) ∷ known limit lefts) ≡ Whole (known_first n.header ts ∷ map known_whole opened)) same
      (seen_header (allowed_after earlier) limit chunk earlier (whole text) m s t b.0 (Seen.First (m.front ++ ts)) ts (known limit lefts) refl refl
      ∙ ap (seen_before (known_first m.header ts)) (all_known (earlier ++ m.header ∷ []) texts old mid new lanes lefts opened b.1 left.2 o.2))
  first_known earlier (text ∷ texts) (s ∷ old) (t ∷ mid) (u ∷ new) (m ∷ lanes) (i ∷ lefts) (p ∷ opened) b left o (suc k) l ts at =
      seen_header (allowed_after earlier) limit chunk earlier (whole text) m s t b.0 (Seen.All (stream_of limit i)) p.rest (slice_set (known limit lefts) k (Seen.First (l.front ++ ts))) refl o.1
      ∙ ap (seen_before (record { header = m.header; rest = p.rest; whole = Some (stream_of limit i) }))
      (first_known (earlier ++ m.header ∷ []) texts old mid new lanes lefts opened b.1 left.2 o.2 k l ts at)
      ∙ ap (λ (q : Opened). Whole (known_whole q ∷ slice_set (map known_whole opened) k (known_first l.header ts))) (sym o.0)
  first_known earlier (text ∷ texts) (s ∷ old) (t ∷ mid) [] (m ∷ lanes) lefts opened b left o k l ts at = absurd left
  first_known earlier (text ∷ texts) (s ∷ old) (t ∷ mid) (u ∷ new) (m ∷ lanes) [] opened b left o k l ts at = absurd left
  first_known earlier (text ∷ texts) (s ∷ old) (t ∷ mid) (u ∷ new) (m ∷ lanes) (i ∷ lefts) [] b left o k l ts at = absurd o
  first_known earlier texts old mid new lanes lefts opened b left o k l ts at = absurd b

-- so the tokens after its header settle the merge
settled_since : (limit chunk : ℕ) (texts : List (List ℕ)) (old mid new : List Supply) (lanes : List Lane) (lefts : List Input) (opened : List Opened)
    → AreBegun limit chunk [] texts old mid lanes → AreLeft limit chunk lanes mid new lefts → AreOpened limit lanes lefts opened
    → (k : ℕ) (l : Lane) (ts : List Token) → slice_get lanes k ≡ Some l → settles_among limit lefts k (l.front ++ ts) ≡ merge.settles_among opened k l.header ts
unfolding is_settled_merge
settled_since limit chunk texts old mid new lanes lefts opened b left o k l ts at = ap settles_merge (first_known limit chunk [] texts old mid new lanes lefts opened b left o k l ts at)

-- what was read after the headers, and with them
module _ (limit chunk : ℕ) (all : List Input) (behind : ℕ → Header → List Token → Bool) where
  from_headers : (pre : List Input) (earlier : List Header) (texts : List (List ℕ)) (old mid new : List Supply) (lanes : List Lane)
      (lefts : List Input) (opened : List Opened) → all ≡ pre ++ lefts → ArePassed limit pre earlier
      → AreBegun limit chunk earlier texts old mid lanes
      → AreLeft limit chunk lanes mid new lefts → AreOpened limit lanes lefts opened
      → ((k : ℕ) (l : Lane) (t u : Supply) (i : Input) → slice_get lanes k ≡ Some l → slice_get mid k ≡ Some t → slice_get new k ≡ Some u
      → slice_get lefts k ≡ Some i → ReadsAsNeeded limit chunk t u i l.front (behind (length pre + k) l.header))
      → ((k : ℕ) (l : Lane) (ts : List Token) → slice_get lanes k ≡ Some l → behind (length pre + k) l.header ts ≡ false
      → settles_among limit all (length pre + k) (l.front ++ ts) ≡ false) → AreNeededFrom limit chunk all (length pre) old new lefts
  from_headers pre earlier [] [] [] new [] lefts opened is passed b left o reads since = λ k s t i a c e. cc
  from_headers pre earlier (text ∷ texts) (s ∷ old) (t ∷ mid) (u ∷ new) (l ∷ lanes) (i ∷ lefts) (p ∷ opened) is passed b left o reads since =
      let is_left = subst (λ (j : Input). IsLeft j t u i) b.0.input_is left.0 in
      let z : length pre + 0 ≡ length pre = omega arith in
      let read = subst (λ (n : ℕ). ReadsAsNeeded limit chunk t u i l.front (behind n l.header)) z (reads 0 l t u i refl refl refl refl) in
      let own = all_read (allowed_after earlier) limit chunk (whole text) l s t b.0 (settles_among limit all (length pre))
      (behind (length pre) l.header) (λ ts e. going_open limit all pre lefts i earlier ts is passed e)
      (λ ts e. subst (λ (n : ℕ). settles_among limit all n (l.front ++ ts) ≡ false) z (since 0 l ts refl (subst (λ (n : ℕ). behind n l.header ts ≡ false) (sym z) e))) u i is_left read in
      let next = passed_more limit chunk pre earlier (whole text) i l s t p.rest b.0 o.1 passed in
      let push = length_push pre i in
      let more = from_headers (pre ++ i ∷ []) (earlier ++ l.header ∷ []) texts old mid new lanes lefts opened (is ∙ shifted pre lefts i) next b.1 left.2 o.2
      (λ k m t' u' j a c d e. let at : length pre + suc k ≡ length (pre ++ i ∷ []) + k = omega (arith, push) in
      subst (λ (n : ℕ). ReadsAsNeeded limit chunk t' u' j m.front (behind n m.header)) at (reads (suc k) m t' u' j a c d e))
      (λ k m ts a e. let at : length pre + suc k ≡ length (pre ++ i ∷ []) + k = omega (arith, push) in
      subst (λ (n : ℕ). settles_among limit all n (m.front ++ ts) ≡ false) at
      (since (suc k) m ts a (subst (λ (n : ℕ). behind n m.header ts ≡ false) (sym at) e))) in
      needed_before limit chunk all (length pre) s u i old new lefts own (subst (λ (n : ℕ). AreNeededFrom limit chunk all n old new lefts) push more)
  from_headers pre earlier (text ∷ texts) (s ∷ old) (t ∷ mid) [] (l ∷ lanes) lefts opened is passed b left o reads since = absurd left
  from_headers pre earlier (text ∷ texts) (s ∷ old) (t ∷ mid) (u ∷ new) (l ∷ lanes) [] opened is passed b left o reads since = absurd left
  from_headers pre earlier (text ∷ texts) (s ∷ old) (t ∷ mid) (u ∷ new) (l ∷ lanes) (i ∷ lefts) [] is passed b left o reads since = absurd o
  from_headers pre earlier texts old mid new lanes lefts opened is passed b left o reads since = absurd b

-- of all inputs
pub needed_all : (limit chunk : ℕ) (old new : List Supply) (inputs : List Input) → AreNeededFrom limit chunk inputs 0 old new inputs → AreNeeded Want.Merge limit chunk old new inputs
needed_all limit chunk old new inputs each = λ k s t i a b c. let z : 0 + k ≡ k = omega arith in
    subst (λ (n : ℕ). ReadsAsNeeded limit chunk s t i [] (settles_among limit inputs n)) z (each k s t i a b c)

pub merge_needed : (limit chunk : ℕ) (texts : List (List ℕ)) (old mid new : List Supply) (lanes : List Lane) (lefts : List Input)
    (opened : List Opened) → AreBegun limit chunk [] texts old mid lanes → AreLeft limit chunk lanes mid new lefts
    → AreOpened limit lanes lefts opened
    → ((k : ℕ) (l : Lane) (t u : Supply) (i : Input) → slice_get lanes k ≡ Some l → slice_get mid k ≡ Some t → slice_get new k ≡ Some u
    → slice_get lefts k ≡ Some i → ReadsAsNeeded limit chunk t u i l.front (merge.settles_among opened k l.header))
    → AreNeeded Want.Merge limit chunk old new lefts
merge_needed limit chunk texts old mid new lanes lefts opened b left o reads =
    needed_all limit chunk old new lefts
    (from_headers limit chunk lefts (merge.settles_among opened) [] [] texts old mid new lanes lefts opened refl (none_passed limit) b left o
    (λ k l t u i a c d e. let z : k ≡ 0 + k = omega arith in subst (λ (n : ℕ). ReadsAsNeeded limit chunk t u i l.front (merge.settles_among opened n l.header)) z (reads k l t u i a c d e))
    (λ k l ts a e.
    let z : 0 + k ≡ k = omega arith in
    let unsettled = settled_since limit chunk texts old mid new lanes lefts opened b left o k l ts a ∙ subst (λ (n : ℕ). merge.settles_among opened n l.header ts ≡ false) z e in
    subst (λ (n : ℕ). settles_among limit lefts n (l.front ++ ts) ≡ false) (sym z) unsettled))

-- where a job has one input there are no others
pub none_others : (wanted : words.Want) (limit chunk : ℕ) (old new : List Supply) (inputs : List Input) → is_merge wanted ≡ false → AreNeeded (model_want wanted) limit chunk old new inputs
none_others want.Merge limit chunk old new inputs e = cc
none_others wanted limit chunk old new inputs e = tt
