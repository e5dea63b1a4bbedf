-- How much a run has read of its input: what it has asked for had not settled it before the last
-- token.
use Rattle.vcd_body.proofs.Cited.{◌≡◌, ℕ, Bool, false, List, [], ◌∷◌, ◌++◌, length, inl, inr, ◌⊎◌, refl, sym, ap, subst, ◌∙◌, list_any, Input, Token, end_of_tokens, stream_of, IsPrefixOf, IdCode, Header, BodyItem, BodyPhrase, items_of, body_grammar, Placed, phrases_of, IsSoFar, Request, ends_early, header_settles, is_settled_behind, so_far-nothing, without-last, earlier-so_far, Supply, Near, ReadsAsNeeded, ToToken, ToEnd, supply_of, token_of, limit_of, chunk_len_of, Ghosts, Feed, GaveLast, HaveJust, GaveAll, StopsAt, AtToken, AtEnd, Regs}
use Rattle.std.proofs.lemmas.List.{append_assoc}
use Rattle.vcd_model.specs.BodyReading.{read_body}

-- ---- lists and their last

pub not_nil : {A B : Type 0} (xs : List A) (x : A) → xs ++ x ∷ [] ≡ [] → B
not_nil [] x e = cc
not_nil (y ∷ xs) x e = cc

tail_is : {A : Type 0} (x y : A) (xs ys : List A) → x ∷ xs ≡ y ∷ ys → (x ≡ y) × (xs ≡ ys)
tail_is x y xs ys e = (cc, cc)

-- lists with one more each have the same front and the same last
pub ends_are : {A : Type 0} (xs ys : List A) (x y : A) → xs ++ x ∷ [] ≡ ys ++ y ∷ [] → (xs ≡ ys) × (x ≡ y)
ends_are [] [] x y e = (refl, (tail_is x y [] [] e).0)
ends_are [] (b ∷ ys) x y e = not_nil ys y (sym (tail_is x b [] (ys ++ y ∷ []) e).1)
ends_are (a ∷ xs) [] x y e = not_nil xs x (tail_is a y (xs ++ x ∷ []) [] e).1
ends_are (a ∷ xs) (b ∷ ys) x y e =
    let t = tail_is a b (xs ++ x ∷ []) (ys ++ y ∷ []) e in
    let more = ends_are xs ys x y t.1 in
    (ap (λ c. c ∷ xs) t.0 ∙ ap (λ l. b ∷ l) more.0, more.1)

pub split_last : {A : Type 0} (xs : List A) → (xs ≡ []) ⊎ ((front : List A) × (last : A) × (xs ≡ front ++ last ∷ []))
split_last [] = inl refl
split_last (x ∷ xs) = by_rest (split_last xs)
  where
    by_rest : (xs ≡ []) ⊎ ((front : List _) × (last : _) × (xs ≡ front ++ last ∷ [])) → (x ∷ xs ≡ []) ⊎ ((front : List _) × (last : _) × (x ∷ xs ≡ front ++ last ∷ []))
    by_rest (inl e) = inr ([], x, ap (λ l. x ∷ l) e)
    by_rest (inr s) = inr (x ∷ s.0, s.1, ap (λ l. x ∷ l) s.2)

-- ---- the tokens before the last

-- whole phrases with these items, and maybe the first tokens of one more
just : (codes : List IdCode) (items : List BodyItem) (ts : List Token) (placed : List (Placed BodyPhrase)) (before : List (List ℕ))
    → IsSoFar (body_grammar codes) ts placed before → items_of (phrases_of placed) ≡ items → HaveJust codes items ts
unfolding read_body
just codes items ts placed before so_far are = (rw so_far refl, rw so_far are)

-- what was read of an input, for any work that such tokens do not settle
module _ {X : Type 0} {g : Ghosts X} (codes : List IdCode) (i : Input) (front : List Token) (items : List BodyItem) (f : Feed X g) (before : Supply)
    (settled : List Token → Bool) (open_still : (ts : List Token) → HaveJust codes items ts → settled ts ≡ false) where
  abbrev IsRead : Type 0
  IsRead = ReadsAsNeeded (limit_of f) (chunk_len_of f) before (supply_of f) i front settled

  -- where the body was refused
  pub asked_to_stop : StopsAt codes i front items f → IsRead
  asked_to_stop (AtToken placed begun are looks near) = ToToken looks.given (token_of f) looks.stands.given_first
      (open_still looks.given (just codes items looks.given placed begun looks.so_far are)) near
  asked_to_stop (AtEnd placed begun are ends) = ToEnd ends.reads.given ends.all
      (open_still ends.reads.given (just codes items ends.reads.given placed begun ends.reads.so_far are)) ends.reads.stands.near_halt

  -- where the body has ended
  pub asked_to_end : (r : Regs) → GaveAll codes i front items f r → IsRead
  asked_to_end r a = ToEnd a.gave.given a.all (open_still a.gave.given (just codes items a.gave.given a.gave.placed [] a.gave.so_far a.gave.items_are)) a.gave.stands.near_halt

  -- and at an item
  pub asked_to_item : (x : BodyItem) (r : Regs) → GaveLast codes i front items x f r → IsRead
  asked_to_item x r m = by_tokens (split_last m.first)
    where
      by_tokens : (m.first ≡ []) ⊎ ((asked : List Token) × (last : Token) × (m.first ≡ asked ++ last ∷ []))
          → ReadsAsNeeded (limit_of f) (chunk_len_of f) before (supply_of f) i front settled
      by_tokens (inl none) =
          let one : Placed BodyPhrase = record { phrase = BodyPhrase.Gives x; line = m.line } in
          let nothing = sym (subst (λ ts. IsSoFar (body_grammar codes) ts (m.before ++ one ∷ []) []) none m.so_far) ∙ so_far-nothing (body_grammar codes) in
          not_nil m.before one (ap (λ r. r.placed) nothing)
      by_tokens (inr s) =
          let one : Placed BodyPhrase = record { phrase = BodyPhrase.Gives x; line = m.line } in
          let asked = s.0 in
          let last = s.1 in
          let so_far = subst (λ ts. IsSoFar (body_grammar codes) ts (m.before ++ one ∷ []) []) s.2 m.so_far in
          let a = without-last (body_grammar codes) asked last (m.before ++ one ∷ []) [] so_far in
          let p = a.last refl in
          let earlier = (ends_are a.earlier m.before p.0 one (sym p.1)).0 in
          let pre : front ++ m.first ≡ front ++ asked ++ last ∷ [] = ap (λ l. front ++ l) s.2 ∙ sym (append_assoc front asked (last ∷ [])) in
          let all = m.gave.stands.given_first in
          let begins : IsPrefixOf (front ++ m.first) (stream_of (limit_of f) i).tokens = (
            m.rest ++ all.0,
            all.1 ∙ ap (λ l. (front ++ l) ++ all.0) m.given_are ∙ ap (λ l. l ++ all.0) (sym (append_assoc front m.first m.rest))
                ∙ append_assoc (front ++ m.first) m.rest all.0,
          ) in
          ToToken asked last (subst (λ ts. IsPrefixOf ts (stream_of (limit_of f) i).tokens) pre begins)
          (open_still asked (just codes items asked a.earlier a.begun (earlier-so_far (body_grammar codes) asked (m.before ++ one ∷ []) [] a)
          (ap (λ l. items_of (phrases_of l)) earlier ∙ m.before_are)))
          (subst (λ ts. Near (chunk_len_of f) (supply_of f).rest (end_of_tokens i.bytes (length ts)) i) pre m.near)

-- ---- a run of one input

-- tokens with just these items do not settle it
pub unsettled : (t : Request) (h : Header) (items : List BodyItem) (ts : List Token) → header_settles t h ≡ false
    → list_any (ends_early t) items ≡ false → HaveJust h.codes items ts → is_settled_behind t h ts ≡ false
unsettled t h items ts still on have = rw (still, have.0, have.1) on

module _ {X : Type 0} {g : Ghosts X} (t : Request) (h : Header) (i : Input) (front : List Token) (items : List BodyItem) (f : Feed X g)
    (limit chunk : ℕ) (before : Supply) (same : limit_of f ≡ limit) (size : chunk_len_of f ≡ chunk) (still : header_settles t h ≡ false)
    (on : list_any (ends_early t) items ≡ false) where
  -- under the limit of the run
  under : ReadsAsNeeded (limit_of f) (chunk_len_of f) before (supply_of f) i front (is_settled_behind t h) → ReadsAsNeeded limit chunk before (supply_of f) i front (is_settled_behind t h)
  under read = subst (λ n. ReadsAsNeeded n chunk before (supply_of f) i front (is_settled_behind t h)) same
      (subst (λ n. ReadsAsNeeded (limit_of f) n before (supply_of f) i front (is_settled_behind t h)) size read)

  pub read_to_stop : StopsAt h.codes i front items f → ReadsAsNeeded limit chunk before (supply_of f) i front (is_settled_behind t h)
  read_to_stop s = under (asked_to_stop h.codes i front items f before (is_settled_behind t h) (λ ts have. unsettled t h items ts still on have) s)

  pub read_to_end : (r : Regs) → GaveAll h.codes i front items f r → ReadsAsNeeded limit chunk before (supply_of f) i front (is_settled_behind t h)
  read_to_end r a = under (asked_to_end h.codes i front items f before (is_settled_behind t h) (λ ts have. unsettled t h items ts still on have) r a)

  pub read_to_item : (x : BodyItem) (r : Regs) → GaveLast h.codes i front items x f r → ReadsAsNeeded limit chunk before (supply_of f) i front (is_settled_behind t h)
  read_to_item x r m = under (asked_to_item h.codes i front items f before (is_settled_behind t h) (λ ts have. unsettled t h items ts still on have) x r m)
