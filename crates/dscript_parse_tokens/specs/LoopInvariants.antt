-- What the loops of the parser keep: what was read so far, and what is still to be read, is what is read from
-- the start.
use Prim.Native.String.{String}
use Rattle.std.specs.Prelude.{◌≡◌, ℕ, ◌+◌, ◌≤◌, max, Bool, List, ◌++◌, Option, length, map}
use Rattle.dscript_lex.specs.declared.token.TokenKind.{TokenKind}
use Rattle.dscript_grammar.specs.Reading.{Read, Reader, got, and_then, read_many, read_separated, read_list}

-- given values, and then those that are read
unfoldable pub with_items : {X : Type 0} → List X → ℕ → Option (Read (List X)) → Option (Read (List X))
with_items xs n m = and_then m (λ r. got (xs ++ r.value) (max n r.height) r.rest)

module _ {S X : Type 0} (view : S → X) (one : Reader X) where
  pub record ManyInvariant (go : List TokenKind → Bool) (items : List S) (height : ℕ)
      (rest start : List TokenKind) : Type 0 where
    pub resumes : (n : ℕ) → with_items (map view items) height
        (read_many go one n rest) ≡ read_many go one (n + length items) start
    pub count : length items + length rest ≤ length start

  pub record SeparatedInvariant (sep : String) (items : List S) (height : ℕ)
      (rest start : List TokenKind) : Type 0 where
    pub resumes : (n : ℕ) → with_items (map view items) height
        (read_separated sep one n rest) ≡ read_separated sep one (n + length items) start
    pub count : length items + length rest ≤ length start

  pub record ListInvariant (close : String) (items : List S) (height : ℕ)
      (rest start : List TokenKind) : Type 0 where
    pub resumes : (n : ℕ) → with_items (map view items) height
        (read_list close one n rest) ≡ read_list close one (n + length items) start
    pub count : length items + length rest ≤ length start
