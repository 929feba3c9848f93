-- How the numbers among tokens become positions.
use Rattle.std.proofs.Common.{◌≡◌, ℕ, List, [], ◌∷◌, ◌++◌, refl, sym, ap, append_assoc, ◌∙◌}
use Rattle.std.proofs.lemmas.Bool.{false≢true}
use Rattle.std.specs.Prelude.{IfSome, Option, None, Some, MatchOption, true, false, Result, Ok, Err, OnOk}
use Rattle.std.specs.Option.{is_some}
use Rattle.json.specs.Token.{Token, number}
use Rattle.std.specs.Str.{IsTrimAsciiEnd}
use Rattle.json.specs.Lex.{tokens}
use Rattle.mesh_files.specs.{Drawing, DrawsRuns, GeoPosition, HasPositions, IsAsWritten, IsPosition}
use Rattle.mesh_files.specs.{declared.geojson.GeoState.GeoState, Drawn.HasNoNumbers, Number, Spot}
use Rattle.mesh_files.specs.Runs.{IsBegunPosition, IsFirstNumber, IsOpenPosition, IsRun}
use Rattle.mesh_files.specs.Runs.{numbers_first}
use Rattle.mesh_files.specs.States.{DrawsOn, GoesOn, HasReadRuns, HasReadTokens, IsBetween}
use Rattle.mesh_files.specs.States.{IsGeoJson, IsWithoutMark, ReadsToken}
use Rattle.mesh_files.proofs.PointRows.{draws_none, nothing_trimmed, word_writes}

pub goes_on_draws : (old new : GeoState) (d : Drawing) → GoesOn old new → DrawsOn old new d d
goes_on_draws old new d g = λ tokens rest shape drawn. record {
  wanted_is = g.between tokens rest;
  shape_is = g.shape tokens shape;
  drawn = drawn;
}

pub first_read : (tokens rest : List Token) (word bytes : List ℕ) (x : Number) → bytes ≡ word
    → IsAsWritten bytes x.decimal → IsRun tokens (word ∷ numbers_first rest)
    → IsFirstNumber tokens rest x
first_read tokens rest word bytes x e written run = (word, run, rw e at written)

pub second_read : (tokens rest : List Token) (word bytes : List ℕ) (x y : Number) (spot : Spot)
    → bytes ≡ word → IsAsWritten bytes y.decimal → spot.x ≡ x → spot.y ≡ y
    → IsFirstNumber tokens (number word ∷ rest) x
    → IsOpenPosition tokens rest (record { spot = spot; height = None })
second_read tokens rest word bytes x y spot e written ex ey first = record {
  first = first.0;
  second = word;
  run = first.1;
  x_is = rw ex first.2;
  y_is = rw ey (rw e at written);
}

begun_if_none : (o : Option Number) (Begun : Type 0) (Read : Number → Type 0)
    → is_some o ≡ false → MatchOption o Begun Read → Begun
begun_if_none None Begun Read e h = h
begun_if_none (Some n) Begun Read e h = absurd (false≢true (sym e))

kept_if_some : (o : Option Number) (Begun Begun' : Type 0) (Read : Number → Type 0)
    → is_some o ≡ true → MatchOption o Begun Read → MatchOption o Begun' Read
kept_if_some None Begun Begun' Read e h = absurd (false≢true e)
kept_if_some (Some n) Begun Begun' Read e h = h

pub height_read : (tokens rest : List Token) (word bytes : List ℕ) (p : GeoPosition)
    (height : Number) → bytes ≡ word → IsAsWritten bytes height.decimal
    → is_some p.height ≡ false → IsOpenPosition tokens (number word ∷ rest) p
    → IsPosition tokens (record { spot = p.spot; height = Some height })
height_read tokens rest word bytes p height e written none h =
    let begun : IsBegunPosition tokens (number word ∷ rest) p.spot = begun_if_none p.height
    (IsBegunPosition tokens (number word ∷ rest) p.spot) (λ n. IsPosition tokens p) none h in
    record {
      row = begun.first ∷ begun.second ∷ word ∷ numbers_first rest;
      run = begun.run;
      spot_is = (
        word_writes begun.first p.spot.x.decimal begun.x_is,
        word_writes begun.second p.spot.y.decimal begun.y_is,
      );
      height_is = word_writes word height.decimal (rw e at written);
    }

pub height_kept : (p : GeoPosition) (tokens before rest : List Token) → is_some p.height ≡ true
    → IsOpenPosition tokens before p → IsOpenPosition tokens rest p
height_kept p tokens before rest e h = kept_if_some p.height
    (IsBegunPosition tokens before p.spot) (IsBegunPosition tokens rest p.spot)
    (λ n. IsPosition tokens p) e h

position_of : (tokens rest : List Token) (spot : Spot) (o : Option Number)
    → numbers_first rest ≡ [] → MatchOption o (IsBegunPosition tokens rest spot)
    (λ n. IsPosition tokens (record { spot = spot; height = o }))
    → IsPosition tokens (record { spot = spot; height = o })
position_of tokens rest spot None ends begun = record {
  row = begun.first ∷ begun.second ∷ numbers_first rest;
  run = begun.run;
  spot_is = (
    word_writes begun.first spot.x.decimal begun.x_is,
    word_writes begun.second spot.y.decimal begun.y_is,
  );
  height_is = rw ends nothing_trimmed;
}
position_of tokens rest spot (Some n) ends h = h

pub position_read : (tokens rest : List Token) (p : GeoPosition) → numbers_first rest ≡ []
    → IsOpenPosition tokens rest p → IsPosition tokens p
position_read tokens rest p ends h = position_of tokens rest p.spot p.height ends h

-- a token was taken
pub token_taken : (all reader rest : List Token) (token : Token) (s0 s1 : GeoState)
    (d0 d1 : Drawing) → HasReadTokens all reader s0 d0 → reader ≡ token ∷ rest
    → ReadsToken token s0 s1 d0 d1 → HasReadTokens all rest s1 d1
token_taken all reader rest token s0 s1 d0 d1 h e reads =
    let at : all ≡ h.0 ++ (token ∷ rest) = h.1 ∙ ap (λ (r : List Token). h.0 ++ r) e in
    let run : IsRun all (numbers_first (token ∷ rest)) =
    record { before = h.0; rest = token ∷ rest; tokens_are = at; row_is = refl } in (
      h.0 ++ token ∷ [],
      at ∙ sym (append_assoc h.0 (token ∷ []) rest),
      reads all rest run (rw e at h.2),
    )

-- tokens were passed over
pub tokens_passed : (all before mid passed rest : List Token) → all ≡ before ++ mid
    → mid ≡ passed ++ rest → all ≡ (before ++ passed) ++ rest
tokens_passed all before mid passed rest e k = e ∙ ap (λ (r : List Token). before ++ r) k
    ∙ sym (append_assoc before passed rest)

-- nothing is read yet
pub nothing_read : (all : List Token) (state : GeoState) (d : Drawing) → IsBetween state.wanted
    → HasPositions all state.shape → HasNoNumbers d → HasReadRuns all all state d
nothing_read all state d between shape none = record {
  wanted_is = between all all;
  shape_is = shape;
  drawn = record {
    rows = [];
    runs = tt;
    drawn = draws_none 0 1 (Some 2) d none.spots_are none.heights_are;
  };
}

-- a text whose tokens were read
pub text_read : (known : Option (List ℕ)) (whole slice unmarked json : List ℕ) (d : Drawing)
    → IfSome known (λ text. whole ≡ text) → slice ≡ whole → IsWithoutMark slice unmarked
    → IsTrimAsciiEnd unmarked json → DrawsRuns (tokens json) d
    → IfSome known (λ text. IsGeoJson text d)
text_read None whole slice unmarked json d e same mark trims drawn = tt
text_read (Some text) whole slice unmarked json d e same mark trims drawn = record {
  unmarked = unmarked;
  json = json;
  unmarked_is = rw (same ∙ e) at mark;
  json_is = trims;
  drawn = drawn;
}

-- what holds holds where a call succeeds
pub on_ok_too : {T E : Type 0} (r : Result T E) (Q : Type 0) → Q → OnOk r Q
on_ok_too (Ok t) Q q = q
on_ok_too (Err e) Q q = tt
