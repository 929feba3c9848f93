-- How the records of a text become points.
use Rattle.std.proofs.Common.{Bor, ◌≡◌, ◌∙◌, ℕ, zero, suc, List, [], ◌∷◌, ◌++◌, true, false, refl, sym, get_or, inl, inr}
use Rattle.std.specs.Prelude.{Option, None, Some, IfSome, MatchOption, option_map, unwrap_or}
use Rattle.csv.specs.Reading.{Reached, ReadRecord, default_config, source_of, strip_bom, took_first}
use Rattle.csv.specs.Reading.{reader_config, reader_headers, reader_state, reader_trim, names_headers}
use Rattle.csv.specs.Records.{field_at}
use Rattle.csv.specs.declared.parser.State.TheVariants as st
use Rattle.csv.specs.declared.reader.Reader.{Reader}
use Rattle.csv.specs.declared.reader.Trim.TheVariants as trim
use Rattle.csv.proofs.ReadFacts.{rows-end, rows-more}
use Rattle.mesh_files.specs.{AddsSpot, Drawing, Draws, Drawn.IsHeightAt, IsNumberAt, Number, SameNumbers, Spot}
use Rattle.mesh_files.specs.Tables.{AreAll, DrawsRow, DrawsTable, Fields, HasRead}
use Rattle.mesh_files.specs.{declared.columns.Columns.Columns, Tables.IsTable}
use Rattle.mesh_files.proofs.PointRows.{draws_more, draws_same}

-- a reader that begins
pub begins : {R : Type 0} (rem : R → Option (List ℕ)) (text : List ℕ) (reader : Reader R)
    → reader_trim reader ≡ trim.None → reader_headers reader ≡ None → names_headers reader ≡ false
    → reader_config reader ≡ default_config → reader_state reader ≡ st.StartRecord
    → source_of rem reader ≡ Some (strip_bom text) → HasRead rem text [] reader
unfolding Reached
begins rem text reader trims headers named config state source = record {
  trims = trims;
  ready = inr (inr (named, headers));
  config = config;
  rest = strip_bom text;
  source = source;
  reached = (sym state, refl);
}

pub opens : {R : Type 0} (rem : R → Option (List ℕ)) (known : Option (List ℕ)) (reader : Reader R)
    → reader_trim reader ≡ trim.None → reader_headers reader ≡ None → names_headers reader ≡ false
    → reader_config reader ≡ default_config → reader_state reader ≡ st.StartRecord
    → source_of rem reader ≡ option_map strip_bom known
    → IfSome known (λ bytes. HasRead rem bytes [] reader)
opens rem None reader trims headers named config state source = tt
opens rem (Some text) reader trims headers named config state source =
    begins rem text reader trims headers named config state source

-- one more record
pub record_read : {R : Type 0} (rem : R → Option (List ℕ)) (text : List ℕ) (rows : List Fields)
    (old new : Reader R) (fields : Fields) → HasRead rem text rows old
    → took_first new ≡ true → ReadRecord rem old new true fields
    → HasRead rem text (rows ++ fields ∷ []) new
record_read rem text rows old new fields h first r =
    let more = rows-more rem old new fields default_config st.StartRecord (strip_bom text) h.rest
    rows h.config h.source h.reached r in
    record {
      trims = r.3 ∙ h.trims;
      ready = inl first;
      config = r.2 ∙ h.config;
      rest = more.0;
      source = more.1;
      reached = more.2;
    }

-- none is left
pub records_end : {R : Type 0} (rem : R → Option (List ℕ)) (text : List ℕ) (rows : List Fields)
    (old new : Reader R) (fields : Fields) → HasRead rem text rows old
    → ReadRecord rem old new false fields → AreAll text rows
records_end rem text rows old new fields h r = (
  reader_state old,
  h.rest,
  h.reached,
  rows-end rem old new fields default_config h.rest h.config h.source r,
)

item_is : (fs : Fields) (i : ℕ) (w : List ℕ) → field_at fs i ≡ Some w → get_or fs i [] ≡ w
unfolding field_at
item_is [] i w e = cc
item_is (f ∷ fs) zero w e = cc
item_is (f ∷ fs) (suc i) w e = item_is fs i w e

no_item : (fs : Fields) (i : ℕ) → field_at fs i ≡ None → get_or fs i [] ≡ []
unfolding field_at
no_item [] i e = refl
no_item (f ∷ fs) zero e = cc
no_item (f ∷ fs) (suc i) e = no_item fs i e

-- a field, or nothing where there is none
pub field_is : (fs : Fields) (i : ℕ) (o : Option (Bor (List ℕ))) (d : Bor (List ℕ))
    → d.now ≡ [] → option_map (λ s. s.now) o ≡ field_at fs i
    → (unwrap_or o d).now ≡ get_or fs i []
field_is fs i None d nothing e = nothing ∙ sym (no_item fs i (sym e))
field_is fs i (Some s) d nothing e = sym (item_is fs i s.now (sym e))

-- a record becomes a point
pub record_drawn : (row : Fields) (columns : Columns) (spot : Spot) (height : Option Number)
    (d0 d1 d2 d3 d4 : Drawing) → IsNumberAt columns.x row spot.x → IsNumberAt columns.y row spot.y
    → SameNumbers d0 d1 → SameNumbers d1 d2
    → IsHeightAt columns.z row height → SameNumbers d2 d3
    → AddsSpot spot height d3 d4 → DrawsRow row columns d0 d4
record_drawn row columns spot height d0 d1 d2 d3 d4 x y same1 same2 z same3 adds = λ rows drawn.
    draws_more rows row columns.x columns.y columns.z spot height d3 d4
    (draws_same rows columns.x columns.y columns.z d0 d3 drawn
    (same3.spots_are ∙ same2.spots_are ∙ same1.spots_are)
    (same3.heights_are ∙ same2.heights_are ∙ same1.heights_are)) adds (x, y) z

pub all_drawn : (text : List ℕ) (header : Fields) (rows : List Fields) (columns : Columns)
    (next : Option ℕ) (d1 d2 : Drawing) (P : Type 0) → next ≡ None
    → MatchOption next (AreAll text (header ∷ rows)) (λ _. P)
    → Draws rows columns.x columns.y columns.z d1 → SameNumbers d1 d2
    → DrawsTable text header columns d2
all_drawn text header rows columns next d1 d2 P none all drawn same = (
  rows,
  rw none at all,
  draws_same rows columns.x columns.y columns.z d1 d2 drawn
      same.spots_are same.heights_are,
)

-- a table of which all records are read
pub table_of : (text : List ℕ) (header : Fields) (columns : Columns) (d : Drawing)
    → DrawsTable text header columns d → IsTable text d
table_of text header columns d drawn = record {
  header = header;
  rows = drawn.0;
  x = columns.x;
  y = columns.y;
  z = columns.z;
  records = drawn.1;
  drawn = drawn.2;
}
