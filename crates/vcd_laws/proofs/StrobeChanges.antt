-- The changes that a strobe writes at an edge: what they are written as, that they can be read, and
-- what they give.
use Rattle.vcd_laws.proofs.Cited.{Bool, List, None, Option, Some, [], ap, arith, bytes_eq, cond, false, flat_map, fold, inl, inr, length, map, max, one-add, refl, subst, suc, sym, true, ℕ, ◌&&◌, ◌++◌, ◌+◌, ◌<◌, ◌||◌, ◌∙◌, ◌∷◌, ◌≡◌, ◌≤◌, and_right, append-nil, append_assoc, map-append, flat_map-append, list_any-append, bytes_eq-Decides, AllByRecursion, list_any, byte, value_change, behind, plain_line, as_line, IdCode, same_code, Header, BodyItem, Change, ChangeForm, time_after, Value, value_line, value_of}
use Rattle.vcd_model.specs.Cut.{line_if_set}
use Rattle.std.proofs.lemmas.List.{length-replicate}
use Rattle.vcd_model.specs.Strobe.{binary, code_line, edge_text, is_triggered, last_sampled, last_time, same_state, sampled, strobe_codes, time_code}
use Rattle.vcd_model.proofs.ChangeLines.{value_line_read}
use Rattle.vcd_model.proofs.Latest.{newer}
use Rattle.vcd_model.proofs.Times.{greatest_from}
use Rattle.vcd_laws.proofs.PickLaw.{behind-none}
use Rattle.vcd_laws.proofs.WrittenCodes.{In}
use Rattle.vcd_laws.proofs.StrobeBase.{newer_behind, as_items, last_given, has_change}

-- ---- changes of several codes

pub last_given-append : (c : IdCode) (xs ys : List Change)
    → last_given c (xs ++ ys) ≡ behind (last_given c ys) (last_given c xs)
last_given-append c [] ys = sym (behind-none (last_given c ys))
last_given-append c (d ∷ xs) ys =
    ap (newer (same_code c d.code) (Some (value_of d))) (last_given-append c xs ys)
    ∙ newer_behind (same_code c d.code) (Some (value_of d)) (last_given c xs) (last_given c ys)

-- changes of this code
abbrev pub AreOf : IdCode → List Change → Type 0
AreOf c ds = AllByRecursion (λ d. d.code ≡ c) ds

other_given : (c d : IdCode) (ds : List Change) → same_code c d ≡ false → AreOf d ds
    → last_given c ds ≡ None
other_given c d [] e h = refl
other_given c d (x ∷ ds) e h =
    ap (newer (same_code c x.code) (Some (value_of x))) (other_given c d ds e h.1)
    ∙ ap (λ b. newer b (Some (value_of x)) None) (ap (same_code c) h.0 ∙ e)

other_change : (c d : IdCode) (ds : List Change) → same_code c d ≡ false → AreOf d ds
    → has_change c ds ≡ false
other_change c d [] e h = refl
other_change c d (x ∷ ds) e h = rw (h.0, e) (other_change c d ds e h.1)

module _ (g : IdCode → List Change) (c : IdCode) where
  -- changes of their own codes, of which only this one has its text
  abbrev pub IsOwn : IdCode → Type 0
  IsOwn d = AreOf d (g d) × (same_code c d ≡ true → d ≡ c)

  pub given_by : (cs : List IdCode) → AllByRecursion IsOwn cs
      → last_given c (flat_map g cs) ≡ cond (list_any (same_code c) cs) (last_given c (g c)) None
  given_by [] h = refl
  given_by (d ∷ cs) h =
      last_given-append c (g d) (flat_map g cs)
      ∙ ap (λ o. behind o (last_given c (g d))) (given_by cs h.1)
      ∙ by_same (same_code c d) (list_any (same_code c) cs) refl
    where
      twice : (b : Bool) (o : Option Value) → behind (cond b o None) o ≡ o
      twice true (Some x) = refl
      twice true None = refl
      twice false o = refl

      by_same : (b any : Bool) → same_code c d ≡ b
          → behind (cond any (last_given c (g c)) None) (last_given c (g d))
          ≡ cond (b || any) (last_given c (g c)) None
      by_same true any e =
          ap (λ x. behind (cond any (last_given c (g c)) None) (last_given c (g x))) (h.0.1 e)
          ∙ twice any (last_given c (g c))
      by_same false any e =
          ap (behind (cond any (last_given c (g c)) None)) (other_given c d (g d) e h.0.0)
          ∙ behind-none (cond any (last_given c (g c)) None)

  pub changed_by : (cs : List IdCode) → AllByRecursion IsOwn cs
      → has_change c (flat_map g cs) ≡ (list_any (same_code c) cs && has_change c (g c))
  changed_by [] h = refl
  changed_by (d ∷ cs) h =
      list_any-append (λ (x : Change). same_code c x.code) (g d) (flat_map g cs)
      ∙ ap (λ b. has_change c (g d) || b) (changed_by cs h.1)
      ∙ by_same (same_code c d) (list_any (same_code c) cs) refl
    where
      twice : (b any : Bool) → (b || (any && b)) ≡ b
      twice true any = refl
      twice false any = and_right any false refl

      by_same : (b any : Bool) → same_code c d ≡ b
          → (has_change c (g d) || (any && has_change c (g c)))
          ≡ ((b || any) && has_change c (g c))
      by_same true any e =
          ap (λ x. has_change c (g x) || (any && has_change c (g c))) (h.0.1 e)
          ∙ twice (has_change c (g c)) any
      by_same false any e =
          ap (λ b. b || (any && has_change c (g c))) (other_change c d (g d) e h.0.0)

-- ---- the changes of an edge

-- the change of a value, if there is one
abbrev pub set_change : IdCode → Option Value → List Change
set_change c None = []
set_change c (Some v) = value_change c v ∷ []

-- an event, triggered
abbrev pub event_change : IdCode → Change
event_change c = record { code = c; form = ChangeForm.Scalar; text = 49 ∷ [] }

-- what is written of a code at an edge that has these edges before it
abbrev pub code_changes : List (List BodyItem) → List BodyItem → IdCode → List Change
code_changes before edge c =
    cond c.event
    (cond (is_triggered edge c (last_time before) (time_after edge)) (event_change c ∷ []) [])
    (cond (same_state (last_sampled before c) (sampled edge c)) [] (set_change c (sampled edge c)))

-- the change of the time
abbrev pub time_change : Header → List ℕ → Change
time_change h ds = value_change (time_code h) (Value.Bits ds)

-- all changes of an edge
abbrev pub edge_changes : Header → List (List ℕ) → List (List BodyItem) → List BodyItem
    → List Change
edge_changes h names before edge =
    time_change h (binary 64 (time_after edge))
    ∷ flat_map (code_changes before edge) (strobe_codes h names)

-- ---- as they are written

abbrev pub lines_of : List Change → List ℕ
lines_of ds = flat_map plain_line (as_items ds)

code_lines : (before : List (List BodyItem)) (edge : List BodyItem) (c : IdCode)
    → code_line before edge c ≡ lines_of (code_changes before edge c)
code_lines before edge c =
    by_event c.event (is_triggered edge c (last_time before) (time_after edge))
    (same_state (last_sampled before c) (sampled edge c))
  where
    set : (o : Option Value) → line_if_set c o ≡ lines_of (set_change c o)
    set None = refl
    set (Some v) = value_line_read c v
        ∙ sym (append-nil (plain_line (BodyItem.Changes (value_change c v))))

    by_event : (b t s : Bool)
        → cond b (cond t (as_line (byte "1" ∷ c.text)) [])
        (cond s [] (line_if_set c (sampled edge c)))
        ≡ lines_of (cond b (cond t (event_change c ∷ []) [])
        (cond s [] (set_change c (sampled edge c))))
    by_event true true s = sym (append-nil (as_line (49 ∷ c.text)))
    by_event true false s = refl
    by_event false t true = refl
    by_event false t false = set (sampled edge c)

lines-append : (xs ys : List Change) → lines_of (xs ++ ys) ≡ lines_of xs ++ lines_of ys
lines-append xs ys =
    ap (flat_map plain_line) (map-append (λ d. BodyItem.Changes d) xs ys)
    ∙ flat_map-append plain_line (as_items xs) (as_items ys)

all_lines : (before : List (List BodyItem)) (edge : List BodyItem) (cs : List IdCode)
    → flat_map (code_line before edge) cs ≡ lines_of (flat_map (code_changes before edge) cs)
all_lines before edge [] = refl
all_lines before edge (c ∷ cs) =
    ap (λ l. l ++ flat_map (code_line before edge) cs) (code_lines before edge c)
    ∙ ap (λ l. lines_of (code_changes before edge c) ++ l) (all_lines before edge cs)
    ∙ sym (lines-append (code_changes before edge c) (flat_map (code_changes before edge) cs))

-- the text of an edge
pub edge_lines : (h : Header) (names : List (List ℕ)) (before : List (List BodyItem))
    (edge : List BodyItem)
    → edge_text h names before edge
    ≡ flat_map plain_line (BodyItem.Time (suc (length before))
    ∷ as_items (edge_changes h names before edge))
unfolding edge_text
edge_lines h names before edge =
    let ds = binary 64 (time_after edge) in
    let time = plain_line (BodyItem.Time (suc (length before))) in
    let own = value_line (time_code h) (Value.Bits ds) in
    let others = flat_map (code_line before edge) (strobe_codes h names) in
    let rest = lines_of (flat_map (code_changes before edge) (strobe_codes h names)) in
    ap (λ n. plain_line (BodyItem.Time n) ++ own ++ others) (one-add (length before))
    ∙ ap (λ l. time ++ l ++ others) (value_line_read (time_code h) (Value.Bits ds))
    ∙ ap (λ l. time ++ plain_line (BodyItem.Changes (time_change h ds)) ++ l)
    (all_lines before edge (strobe_codes h names))
    ∙ append_assoc time (plain_line (BodyItem.Changes (time_change h ds))) rest

-- ---- codes

pub longest : (cs : List IdCode) (c : IdCode) (a : ℕ) → In c cs
    → length c.text ≤ fold max a (map (λ (d : IdCode). length d.text) cs)
longest [] c a i = absurd i
longest (d ∷ cs) c a (inl e) =
    let g = greatest_from (max a (length d.text)) (map (λ (x : IdCode). length x.text) cs) in
    subst (λ (x : IdCode). length x.text ≤ fold max (max a (length d.text))
    (map (λ (y : IdCode). length y.text) cs)) (sym e) (omega arith)
longest (d ∷ cs) c a (inr i) = longest cs c (max a (length d.text)) i

pub lengths_differ : (xs ys : List ℕ) → length xs < length ys → bytes_eq xs ys ≡ false
lengths_differ xs ys l = by_test (bytes_eq xs ys) refl
  where
    by_test : (b : Bool) → bytes_eq xs ys ≡ b → b ≡ false
    by_test false e = refl
    by_test true e =
        let same : length xs ≡ length ys = ap length ((bytes_eq-Decides xs ys).0 e) in
        absurd (omega arith)

pub longer_differ : (xs ys : List ℕ) → length ys < length xs → bytes_eq xs ys ≡ false
longer_differ xs ys l = by_test (bytes_eq xs ys) refl
  where
    by_test : (b : Bool) → bytes_eq xs ys ≡ b → b ≡ false
    by_test false e = refl
    by_test true e =
        let same : length xs ≡ length ys = ap length ((bytes_eq-Decides xs ys).0 e) in
        absurd (omega arith)

-- the code of the time is longer than the codes of the header
pub time_code_new : (h : Header) (c : IdCode) → In c h.codes
    → length c.text < length (time_code h).text
time_code_new h c i =
    let l = longest h.codes c 0 i in
    let n = length-replicate (1 + fold max 0 (map (λ (d : IdCode). length d.text) h.codes)) (byte "!") in
    omega arith
