-- A chart as a value. 01, The chart text. Its parts are small records, so that a field of a later version is written in one place.
use Rattle.std.specs.Prelude.{Bool, List, ℕ}

-- "`chart=1`, `steps=N`, `initial=LIST`, `inputs=M`, `outputs=K`, `limit=L`"
pub record Head : Type 0 where
  pub version : ℕ
  pub steps : ℕ
  pub initial : List ℕ
  pub inputs : ℕ
  pub outputs : ℕ
  pub limit : ℕ

-- "`move=LIST>LIST:COND` (steps before, steps after)". The condition is its bytes; cond's grammar says what they mean.
pub record Move : Type 0 where
  pub before : List ℕ
  pub after : List ℕ
  pub condition : List ℕ

-- "`hold=STEP:OUTPUT:COND`"
pub record Hold : Type 0 where
  pub step : ℕ
  pub output : ℕ
  pub condition : List ℕ

-- "`latch=STEP:E:OUTPUT:V`, E is `u` (activation) or `d` (deactivation), V is 0 or 1"
pub record Latch : Type 0 where
  pub step : ℕ
  pub activation : Bool
  pub output : ℕ
  pub on : Bool

-- the lines after the head
pub record Body : Type 0 where
  pub moves : List Move
  pub holds : List Hold
  pub latches : List Latch

pub record Chart : Type 0 where
  pub head : Head
  pub body : Body
