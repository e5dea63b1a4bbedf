-- What the contracts of this crate cite, under one path: names of the crates below, and those that
-- several of its modules share.
pub use Rattle.std.specs.Cmp.Lexicographic.{slice_cmp}
pub use Rattle.std.specs.List.{AllByRecursion}
pub use Rattle.std.specs.Ordering.{nat_cmp}
pub use Rattle.vcd_model.specs.Bound.{room_of}
pub use Rattle.vcd_model.specs.Declarations.{IdCode, name_of, parent}
pub use Rattle.vcd_model.specs.HeadText.{exponent, new_code}
pub use Rattle.vcd_model.specs.Header.{Header}
pub use Rattle.vcd_model.specs.Keywords.{is_end, keyword_of}
pub use Rattle.vcd_text.specs.Device.{Puts}
pub use Rattle.vcd_view.specs.Entries.{HasEntry, IsAt, KeepsRight, MayHaveKey, above, are_right, code_bytes, entry_after, entry_in, is_right, number_in, size_or_zero_of, text_in}
pub use Rattle.vcd_view.specs.Finds.{Finds, IsSized, bits_of}
pub use Rattle.vcd_view.specs.Keys.{AreBytes, key_in}
pub use Rattle.vcd_view.specs.Keywords.{model_keyword}
pub use Rattle.vcd_view.specs.Needs.{room, value_bytes}
pub use Rattle.vcd_view.specs.NewCode.{digits_of}
pub use Rattle.vcd_view.specs.Over.{AnyCodes, AnyDeclared, AnyHeader, AnyHeld, AnyRow, FitsEachInput}
pub use Rattle.vcd_view.specs.Views.{AreHeld, IsIndex, IsViewOf, code_text, reference_of, type_of}
