-- Names: which are declared, which are driven, and their numbers in order of appearance.
-- 02, P4: "Names map to numbers .. in order of appearance"; "A variable that an action drives is an output, every other one is an input".
use Rattle.std.specs.Prelude.{Bool, true, false, cond, not, ◌&&◌, ◌||◌, List, [], ◌∷◌, ◌++◌, ℕ, ◌+◌, eqb, leb, length, set, take, Option, Some, None, is_some, is_none}
use Rattle.tokens.specs.declared.Kind.{Kind}
use Rattle.tokens.specs.declared.Token.{Token}
use Rattle.tokens.specs.Spelling.{same_word}
use Rattle.tokens.specs.Tokens.{token_bytes, token_after, tokens_from, tokens, token_at}
use Rattle.naming.specs.declared.Names.{Names}
use Rattle.naming.specs.declared.Qualifier.{Qualifier}
use Rattle.naming.specs.declared.Qualifier.TheVariants.{N, S, R}
use Rattle.tokens.specs.declared.Kind.TheVariants.{InitialStep, Step, Name, Open, Close}
use Rattle.tokens.specs.Kinds.{same_kind}

abbrev pub begins_step : Kind → Bool
begins_step InitialStep = true
begins_step Step = true
begins_step _ = false

abbrev pub step_word : Token → Bool
step_word u = begins_step u.kind

-- whether a place is the one that was found
abbrev pub is_at : ℕ → Option ℕ → Bool
is_at a None = false
is_at a (Some d) = eqb d a

module _ (s : List ℕ) where
  -- u is the name that t is
  abbrev pub named : Token → Token → Bool
  named t u = same_kind u.kind Name && same_word (token_bytes s u) (token_bytes s t)

  -- Steps: "INITIAL_STEP, STEP" and a name, anywhere in the text.

  -- the place where a name is declared first, if it is
  unfoldable pub declared_among : Token → List Token → Option ℕ
  declared_among t [] = None
  declared_among t (u ∷ us) = cond (step_word u && named t (token_after s u)) (Some (token_after s u).place) (declared_among t us)

  unfoldable pub declared_at : Token → Option ℕ
  declared_at t = declared_among t (tokens s)

  abbrev pub is_undeclared : Token → Bool
  is_undeclared t = is_none (declared_at t)

  abbrev pub is_declared : Token → Bool
  is_declared t = not (is_undeclared t)

  -- a name that stands where it is declared first
  abbrev pub is_first : Token → Bool
  is_first t = is_at t.place (declared_at t)

  -- Outputs: a name and `(N)`, `(S)` or `(R)`, anywhere in the text.

  -- the qualifier that a token's word is, if it is one
  unfoldable pub qualifier : Token → Option Qualifier
  qualifier u =
      cond (same_word (token_bytes s u) (78 ∷ [])) (Some N)
      (cond (same_word (token_bytes s u) (83 ∷ [])) (Some S)
      (cond (same_word (token_bytes s u) (82 ∷ [])) (Some R)
      None))

  abbrev pub is_qualifier : Token → Bool
  is_qualifier u = same_kind u.kind Name && is_some (qualifier u)

  unfoldable pub begins_action : Token → Bool
  begins_action u = same_kind (token_after s u).kind Open && (is_qualifier (token_after s (token_after s u)) && same_kind (token_after s (token_after s (token_after s u))).kind Close)

  unfoldable pub driven_in : Token → List Token → Bool
  driven_in t [] = false
  driven_in t (u ∷ us) = (named t u && begins_action u) || driven_in t us

  unfoldable pub is_driven : Token → Bool
  is_driven t = driven_in t (tokens s)

  -- Lists: whether a name stands already among the tokens before it.

  unfoldable pub listed_in : Token → List Token → Bool
  listed_in t [] = false
  listed_in t (u ∷ us) = cond (leb t.place u.place) false (named t u || listed_in t us)

  -- from a place on
  unfoldable pub is_listed : ℕ → Token → Bool
  is_listed a t = listed_in t (tokens_from (length s + 1) s (token_at s a 0))

  -- Numbers

  -- the place of a name in a list, or the list's length
  unfoldable pub number_in : Token → List Token → ℕ
  number_in t [] = 0
  number_in t (u ∷ us) = cond (same_word (token_bytes s u) (token_bytes s t)) 0 (number_in t us + 1)

-- a name more, where it is not among them: "in order of appearance"
unfoldable pub joined_to : List ℕ → List Token → Token → List Token
joined_to s l t = cond (eqb (number_in s t l) (length l)) (l ++ t ∷ []) l

unfoldable pub joined_all : List ℕ → List Token → List Token → List Token
joined_all s l [] = l
joined_all s l (t ∷ ts) = joined_all s (joined_to s l t) ts

-- the different names of some tokens, each once, as it appears first: a name's number is its place among them
abbrev pub names_of : List ℕ → List Token → List Token
names_of s ts = joined_all s [] ts

-- The code's table of names: those that have a number, each by the token that it appeared as first.

abbrev pub list_of : Names → List Token
list_of n = take n.count n.words

unfoldable pub table_number : List ℕ → Names → Token → ℕ
table_number s n t = number_in s t (list_of n)

abbrev pub is_new : List ℕ → Names → Token → Bool
is_new s n t = eqb (table_number s n t) (length (list_of n))

abbrev pub is_full : ℕ → Names → Bool
is_full m n = leb m n.count

abbrev pub added : Names → Token → Names
added n t = record { words = set n.words n.count t; count = n.count + 1 }

-- a name more, of at most m: one that finds no room gets no number
unfoldable pub with_name : ℕ → List ℕ → Names → Token → Names
with_name m s n t = cond (is_new s n t) (cond (is_full m n) n (added n t)) n
