pub mod Computing
pub mod RowText
pub mod Rows
pub mod MoreRows
mod KeptRows
mod TableRows
mod StepRows
mod OrderRows
mod WordRows
mod CornerRows
mod TokenRows
mod SettledRows
mod DueRows
mod UnitRows
mod DumpBase
mod PickRows
mod CutRows
mod MergeRows
mod UnlikeRows
pub mod CompareRows
mod WithinRows
mod StrobeRows
mod SafeRows
pub mod WordLemmas
pub mod OpenedBodies
pub mod PickLaw
pub mod CutLaw
pub mod MergeDumps
pub mod MergeLaw
pub mod RunLaws
pub mod MergeAlone
pub mod Safe
pub mod Settling
pub mod FewDeclarations
pub mod SafeMerge
pub mod MergeFaults
pub mod SettlingMerge
pub mod SettledAlone
pub mod HeadersGood
pub mod WrittenDeclared
pub mod WrittenCodes
pub mod SameReadings
pub mod HeadBack
pub mod MergedHead
pub mod MergedBack
pub mod ShortTokens
pub mod ShortHeads
pub mod ShortBodies
pub mod CutShort
pub mod MergeShort
pub mod DumpLaws
pub mod FirstTokens
pub mod Unsettled
pub mod UnsettledMerge
pub mod FrontTokens
pub mod DueText
pub mod MergeDue
pub mod CutOff
pub mod SampleText
pub mod PickUses
pub mod PickCounts
pub mod EdgesOfPick
pub mod PickedAlone
pub mod CutUses
pub mod WrittenCounts
pub mod HeadCounts
pub mod HeadTwice
pub mod PickTwice
pub mod Checks
pub mod CheckOfCut
pub mod DumpOfDump
pub mod MergeCounts
pub mod CheckOfMerge
pub mod MergedPaths
pub mod ListOfMerge
pub mod WholeDumps
pub mod SampleOfMerge
pub mod EdgesOfMerge
pub mod AllMerged
pub mod HeadOfHead
pub mod PickOfPick
pub mod CutAgain
pub mod CutTwice
pub mod EdgesOfCut
pub mod SampleOfCut
pub mod KeepsAll
pub mod MergedPairs
pub mod MergedStates
pub mod SameTimes
pub mod MergedTimes
pub mod QuietTimes
pub mod WholeWithin
pub mod SameSides
pub mod CompareInputs
pub mod CompareOfMerge
pub mod SameStrobes
pub mod StrobeBase
pub mod StrobeEdges
pub mod StrobeChanges
pub mod StrobeFacts
pub mod StrobeCounts
pub mod StrobeKeeps
pub mod StrobeHead
pub mod StrobeShort
pub mod StrobeDump
mod StrobedRows
pub mod SuccessMatches
pub mod OutermostPlaces
pub mod OutermostOnce
pub mod MergedSuccess
pub mod SameDumps
pub mod StrobesMatch
pub mod Cited
pub mod Facts
