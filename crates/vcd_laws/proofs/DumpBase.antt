-- What the rows on written dumps share.
use Rattle.vcd_laws.proofs.Cited.{ℕ, Bool, false, Some, List, [], ◌∷◌, codes, Result, Ok, arith, zero, suc, IsStrictlyIncreasing, String, Variable, Value, Given, header_of, Fault, Outcome, Opened, open_from, Want, stream_over, over_written}
use Rattle.vcd_laws.proofs.RowText.{clean, limit, cut}

abbrev pub stdin : List ℕ
stdin = codes "(stdin)"

-- b shares no code with a, and c is an alias of a
abbrev pub aliased : String
aliased = "$date $scope today $end $timescale 1 ns $end $var wire 1 x a $end $var wire 1 y b $end $scope module m $end $var wire 001 x c $end $enddefinitions $end #0 0x 1y #5 b1 x"

abbrev pub some_names : List (List ℕ)
some_names = codes "b" ∷ codes "m" ∷ []

-- the input, its header read
abbrev pub opened : Opened
opened = first_or (open_from limit [] (clean aliased ∷ []))
  where
    first_or : Result (List Opened) (ℕ × Fault) → Opened
    first_or (Ok (o ∷ os)) = o
    first_or r = record { header = header_of []; stream = stream_over []; rest = [] }

-- a variable of one bit
abbrev pub wire : String → String → Variable
wire code name = record {
  type = codes "wire";
  size = 1;
  code = codes code;
  reference = codes name ∷ [];
}

-- what a change of one bit gives, inside a section or not
abbrev pub bit : ℕ → Bool → String → ℕ → Given
bit t inside code digit = record {
  time = t;
  inside = inside;
  code = record { text = codes code; size = 1; event = false };
  value = Some (Value.Bits (digit ∷ []));
}

-- what a job gives for what a pick wrote
abbrev pub over_pick : Want → Outcome
over_pick want = over_written want (Want.Pick some_names) limit stdin (clean aliased)

-- what a job gives for what a cut wrote
abbrev pub over_cut : Want → Outcome
over_cut want = over_written want (cut "1" "5") limit stdin (clean aliased)

pub rising_alone : IsStrictlyIncreasing (0 ∷ 5 ∷ [])
rising_alone zero h = omega arith
rising_alone (suc k) h = absurd (omega arith)
