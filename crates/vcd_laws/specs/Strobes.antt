-- What `strobe` writes depends only on the values just before the edges, and keeps them: it is a
-- dump of these.
use Rattle.std.specs.Prelude.{◌≡◌, ◌↔◌, ℕ, suc, ◌+◌, ◌<◌, ◌≤◌, ◌^◌, IsTrue, IsFalse, List, [], ◌∷◌, ◌++◌, length, take, flat_map, codes, Contains, None, Some, slice_get}
use Rattle.vcd_model.specs.Input.{Input}
use Rattle.vcd_model.specs.Declarations.{IdCode}
use Rattle.vcd_model.specs.Header.{Header}
use Rattle.vcd_model.specs.Items.{BodyItem, time_after}
use Rattle.vcd_model.specs.Values.{Value}
use Rattle.vcd_model.specs.History.{value_at}
use Rattle.vcd_model.specs.Selection.{Selected, first_unmatched, selected}
use Rattle.vcd_model.specs.BodyReading.{body_fault_of, body_items}
use Rattle.vcd_model.specs.Outcome.{Opened, declarations_allowed, fault_in, items_in}
use Rattle.vcd_model.specs.Laws.{IsPrefixOf, read_text, stream_over}
use Rattle.vcd_model.specs.Strobe.{Clock, Strobe, binary, clocks_of, code_line, edges_in, is_triggered, last_time, no_clock, sampled, strobe, strobe_codes, strobe_head, strobe_open, time_code}
use Rattle.vcd_laws.specs.KeptValues.{Opens, IsBehind}
use Rattle.vcd_laws.specs.Heads.{most_declared}
use Rattle.vcd_laws.specs.Dumps.{CodesFit, input_of}

-- what was written is a prefix of what is written for every longer list of items
abbrev pub NothingRevisedInStrobe : Type 0
NothingRevisedInStrobe = (ks : List Clock) (h : Header) (names : List (List ℕ)) (p q : List BodyItem)
    → IsPrefixOf (strobe_open ks h names p) (strobe_open ks h names (p ++ q))

-- the edges before edge number n
abbrev pub edges_before : List Clock → List BodyItem → ℕ → List (List BodyItem)
edges_before ks items n = take n (edges_in ks items)

-- at edge number k, counted from 0, of two lists of items, this code has the same value just before
-- the edge, and was triggered since the edge before or not
abbrev pub IsAlikeAt : (ks ls : List Clock) (p q : List BodyItem) → ℕ → (e f : List BodyItem) → IdCode → Type 0
IsAlikeAt ks ls p q k e f c = (sampled e c ≡ sampled f c)
    × (is_triggered e c (last_time (edges_before ks p k)) (time_after e)
    ≡ is_triggered f c (last_time (edges_before ls q k)) (time_after f))

-- Two lists of items with the same values just before their edges have the same lines of codes at
-- each edge, whatever happens between the edges, and whenever the edges are.
abbrev pub SameStrobes : Type 0
SameStrobes = (ks ls : List Clock) (h : Header) (names : List (List ℕ)) (p q : List BodyItem)
    → ((k : ℕ) (e f : List BodyItem) → slice_get (edges_in ks p) k ≡ Some e
    → slice_get (edges_in ls q) k ≡ Some f → (c : IdCode) → Contains (strobe_codes h names) c
    → IsAlikeAt ks ls p q k e f c)
    → (k : ℕ) (e f : List BodyItem) → slice_get (edges_in ks p) k ≡ Some e
    → slice_get (edges_in ls q) k ≡ Some f
    → flat_map (code_line (edges_before ks p k) e) (strobe_codes h names)
    ≡ flat_map (code_line (edges_before ls q k) f) (strobe_codes h names)

-- ---- values are kept

-- the codes of the text after a head: that of the time, and those of the names
abbrev pub written_codes : Header → List (List ℕ) → List IdCode
written_codes h names = time_code h ∷ strobe_codes h names

-- At time k + 1 these other items have what there is at edge number k of the items, counted from 0:
-- each code of the names that is no event has its value just before the edge, the code of the time
-- has the edge's time, and an event is triggered if it was since the edge before. Nothing comes at
-- time 0, and the last time is the number of edges.
pub record GivesEdges (ks : List Clock) (h : Header) (names : List (List ℕ))
    (items written : List BodyItem) : Type 0 where
  pub values : (c : IdCode) (k : ℕ) (edge : List BodyItem)
      → slice_get (edges_in ks items) k ≡ Some edge
      → Contains (strobe_codes h names) c → IsFalse c.event
      → value_at written c (suc k) ≡ sampled edge c
  pub times : (k : ℕ) (edge : List BodyItem) → slice_get (edges_in ks items) k ≡ Some edge
      → value_at written (time_code h) (suc k) ≡ Some (Value.Bits (binary 64 (time_after edge)))
  pub events : (c : IdCode) (k : ℕ) (edge : List BodyItem)
      → slice_get (edges_in ks items) k ≡ Some edge
      → Contains (strobe_codes h names) c → IsTrue c.event
      → is_triggered written c (suc k) (suc (suc k))
      ≡ is_triggered edge c (last_time (edges_before ks items k)) (time_after edge)
  pub start : (c : IdCode) → (value_at written c 0 ≡ None) × IsFalse (is_triggered written c 0 1)
  pub last : time_after written ≡ length (edges_in ks items)

-- a text is a whole body against these codes, and gives what there is at the edges
pub record KeepsEdges (ks : List Clock) (h : Header) (names : List (List ℕ)) (items : List BodyItem)
    (text : List ℕ) : Type 0 where
  pub whole : body_fault_of (stream_over text) (read_text (written_codes h names) text) ≡ None
  pub edges : GivesEdges ks h names items (body_items (read_text (written_codes h names) text))

-- what `strobe` writes of the items of an input, with or without a fault after them, keeps what
-- there is at the edges
abbrev pub StrobeKeeps : Type 0
StrobeKeeps = (limit : ℕ) (input : Input) (o : Opened) (ks : List Clock) (names : List (List ℕ))
    → Opens limit input o
    → IsBehind (strobe_head o.header names) (strobe_open ks o.header names (items_in o))
    (KeepsEdges ks o.header names (items_in o))

-- ---- it is a dump

-- the variable of the time of an edge, with its path
abbrev pub time_variable : Header → Selected
time_variable h = record {
  path = codes "strobe.time";
  variable = record {
    type = codes "time";
    size = 64;
    code = (time_code h).text;
    reference = codes "time" ∷ [];
  };
}

-- k declares the variable of the time, and after it the variables that names select of h
pub record IsStrobeHead (h : Header) (names : List (List ℕ)) (k : Header) : Type 0 where
  pub date : k.date ≡ []
  pub version : k.version ≡ []
  pub scale : k.scale ≡ None
  pub variables : selected [] k.declarations ≡ time_variable h ∷ selected names h.declarations
  pub codes : (c : IdCode) → Contains k.codes c ↔ Contains (written_codes h names) c

-- A run of `strobe` over an input, whose header is that of o, is not refused, and its output is
-- within the limits under which it is read again. A time needs up to 65 bytes.
pub record IsReadableStrobe (q : Strobe) (limit : ℕ) (name : List ℕ) (input : Input)
    (o : Opened) : Type 0 where
  pub opens : Opens limit input o
  pub clocks : no_clock o.header q.clocks ≡ None
  pub names : first_unmatched q.names o.header.declarations ≡ None
  pub least : 65 ≤ limit
  pub fits : CodesFit limit o.header
  pub bytes : length (strobe q limit name input).output < 2 ^ 63
  pub few : most_declared o.header + 3 ≤ declarations_allowed

-- a text is a dump: its head is such a head, and its body has no fault and gives what there is at
-- the edges
pub record IsStrobeDump (limit : ℕ) (q : Strobe) (o : Opened) (text : List ℕ) : Type 0 where
  pub dump : Opened
  pub opens : Opens limit (input_of text) dump
  pub head : IsStrobeHead o.header q.names dump.header
  pub whole : fault_in dump ≡ None
  pub edges : GivesEdges (clocks_of o.header q.clocks) o.header q.names (items_in o)
      (items_in dump)

-- the output of a run of `strobe` that is not refused is a dump, even if a fault ends the run
abbrev pub StrobeIsADump : Type 0
StrobeIsADump = (q : Strobe) (limit : ℕ) (name : List ℕ) (input : Input) (o : Opened)
    → IsReadableStrobe q limit name input o
    → IsStrobeDump limit q o (strobe q limit name input).output
