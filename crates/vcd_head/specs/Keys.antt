-- The keys by which the codes of a header that is read are found.
use Rattle.std.specs.Prelude.{◌≡◌, ℕ, ◌==◌, cond, Bool, true, List, [], ◌∷◌, map, bytes_eq}
use Rattle.std.specs.Hash as fed
use Rattle.std.specs.Hash.{HashWrites}
use Rattle.std.proofs.Common.{ap}
use Rattle.std.proofs.lemmas.Slice.Eq.{bytes_eq-Decides}
use Rattle.vcd_model.specs.Declarations.{IdCode}
use Rattle.vcd_view.specs.Keys.{key_in}
use Rattle.vcd_head.specs.declared.code_key.CodeKey.{CodeKey}
use Rattle.vcd_head.specs.declared.code_key.CodeKey.TheVariants as key

-- what tells a key from others: that of a short code, or two zeros and a long code's bytes
abbrev pub shape_of : CodeKey → List ℕ
shape_of (key.Short n) = n ∷ []
shape_of (key.Long v) = 0 ∷ 0 ∷ v.items

-- the shape of the key of a code with these bytes
abbrev pub shape_in : List ℕ → List ℕ
shape_in t = cond (key_in t == 0) (0 ∷ 0 ∷ t) (key_in t ∷ [])

-- the key is that of the code with these bytes
abbrev pub is_key : List ℕ → CodeKey → Bool
is_key t k = bytes_eq (shape_in t) (shape_of k)

-- these are the keys of the codes, in order
abbrev pub AreKeysOf : List CodeKey → List IdCode → Type 0
AreKeysOf keys cs = map shape_of keys ≡ map (λ (c : IdCode). shape_in c.text) cs

-- the keys are of the same code
abbrev pub same_shape : CodeKey → CodeKey → Bool
same_shape a b = bytes_eq (shape_of a) (shape_of b)

-- what is hashed of a key with this shape: a short code's key, or a long code's bytes
abbrev pub writes_in : List ℕ → HashWrites
writes_in [] = []
writes_in (n ∷ []) = fed.u64 n
writes_in (n ∷ m ∷ bytes) = bytes ∷ []

-- what is hashed of a key
abbrev pub writes_of : CodeKey → HashWrites
writes_of k = writes_in (shape_of k)

pub same_writes : (a b : CodeKey) → same_shape a b ≡ true → writes_of a ≡ writes_of b
same_writes a b e = ap writes_in ((bytes_eq-Decides (shape_of a) (shape_of b)).0 e)
