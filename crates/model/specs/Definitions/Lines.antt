-- 01 "One patch, whole", of the program `carry`, with 02, N2: the lines that a program prints, for an answer and, of `extend` (02, N8),
-- for a type.
use Rattle.std.specs.Prelude.{◌≡◌, List, [], ◌∷◌, ◌++◌, ℕ}
use Rattle.model.specs.Definitions.Decimal.{DecimalText}
use Rattle.model.specs.Definitions.Entries.{Answer}

-- a single blank before each number, which is in decimal
pub data NumbersText : List ℕ → List ℕ → Type 0 where
  no_number : NumbersText [] []
  number_then : {n : ℕ} {ns text more : List ℕ} → DecimalText n text → NumbersText ns more → NumbersText (n ∷ ns) (0x20 ∷ (text ++ more))

-- `Line word ns bs`: the bytes bs are the line of a word and the numbers ns, which ends with 0A
pub record Line (word ns bs : List ℕ) : Type 0 where
  pub numbers : List ℕ
  pub in_decimal : NumbersText ns numbers
  pub as_bytes : bs ≡ word ++ (numbers ++ 0x0A ∷ [])

-- the words carried, brought and refused
abbrev pub carried_word : List ℕ
carried_word = 0x63 ∷ 0x61 ∷ 0x72 ∷ 0x72 ∷ 0x69 ∷ 0x65 ∷ 0x64 ∷ []

abbrev pub brought_word : List ℕ
brought_word = 0x62 ∷ 0x72 ∷ 0x6F ∷ 0x75 ∷ 0x67 ∷ 0x68 ∷ 0x74 ∷ []

abbrev pub refused_word : List ℕ
refused_word = 0x72 ∷ 0x65 ∷ 0x66 ∷ 0x75 ∷ 0x73 ∷ 0x65 ∷ 0x64 ∷ []

-- the line for an answer: where it accepts, a word and numbers; for a refusal number, document and mark
pub data AnswerLine (word ns : List ℕ) (a : Answer) (bs : List ℕ) : Type 0 where
  acceptance : a.refusal ≡ 0 → Line word ns bs → AnswerLine word ns a bs
  refusing : (a.refusal ≡ 0 → ⊥) → Line refused_word (a.refusal ∷ a.document ∷ a.mark ∷ []) bs → AnswerLine word ns a bs

-- `carry`: length of the image and filler elements
abbrev pub CarryLine : Answer → List ℕ → Type 0
CarryLine a bs = AnswerLine carried_word (a.value ∷ a.filler ∷ []) a bs

-- `bring`, the program beside it: length of the source document
abbrev pub BringLine : Answer → List ℕ → Type 0
BringLine a bs = AnswerLine brought_word (a.value ∷ []) a bs

-- `read` (02, N4): length of the source document, and target elements on no followed path
abbrev pub read_word : List ℕ
read_word = 0x72 ∷ 0x65 ∷ 0x61 ∷ 0x64 ∷ []

abbrev pub ReadLine : Answer → List ℕ → Type 0
ReadLine a bs = AnswerLine read_word (a.value ∷ a.filler ∷ []) a bs

-- `extend` (02, N8), for an operation: the number of types
abbrev pub types_word : List ℕ
types_word = 0x74 ∷ 0x79 ∷ 0x70 ∷ 0x65 ∷ 0x73 ∷ []

abbrev pub OperationLine : Answer → List ℕ → Type 0
OperationLine a bs = AnswerLine types_word (a.value ∷ []) a bs

-- and for a type: its height, and the kept length of its filler
abbrev pub KeptLine : ℕ → ℕ → List ℕ → Type 0
KeptLine height fill bs = (text : List ℕ) × DecimalText height text × Line text (fill ∷ []) bs
