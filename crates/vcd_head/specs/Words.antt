-- Sizes, and the numbers and units of time scales.
use Rattle.std.specs.Prelude.{ℕ, ℤ, pos, negsuc, codes, cond, List, bytes_eq, Option, Some, None}
use Rattle.vcd_model.specs.Bytes.{decimal_value}
use Rattle.vcd_model.specs.HeaderChecks.{is_size}

-- the size that a token spells
abbrev pub size_in : List ℕ → Option ℕ
size_in token = cond (is_size token) (Some (decimal_value token)) None

-- the power of ten of a time scale's number
abbrev pub power_in : List ℕ → Option ℤ
power_in t = cond (bytes_eq (codes "1") t) (Some (pos 0)) (cond (bytes_eq (codes "10") t) (Some (pos 1)) (cond (bytes_eq (codes "100") t) (Some (pos 2)) None))

-- the power of ten of a time scale's unit, in seconds
abbrev pub unit_in : List ℕ → Option ℤ
unit_in t =
    cond (bytes_eq (codes "s") t) (Some (pos 0)) (cond (bytes_eq (codes "ms") t) (Some (negsuc 2)) (cond (bytes_eq (codes "us") t) (Some (negsuc 5))
    (cond (bytes_eq (codes "ns") t) (Some (negsuc 8)) (cond (bytes_eq (codes "ps") t) (Some (negsuc 11)) (cond (bytes_eq (codes "fs") t) (Some (negsuc 14)) None)))))
