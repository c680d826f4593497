-- The codes of classes, actions, significances, severities and statuses, as their tables have them.
use Rattle.std.specs.Prelude.{ℕ, List, [], ◌∷◌, codes}
use Rattle.hazard_types.specs.Orders.{sig_letter}
use Rattle.hazard_types.specs.declared.codes.Class.{Class}
use Rattle.hazard_types.specs.declared.codes.Class.TheVariants as class
use Rattle.hazard_types.specs.declared.codes.Action.{Action}
use Rattle.hazard_types.specs.declared.codes.Action.TheVariants as action
use Rattle.hazard_types.specs.declared.codes.Severity.{Severity}
use Rattle.hazard_types.specs.declared.codes.Severity.TheVariants as severity
use Rattle.hazard_types.specs.declared.codes.Status.{Status}
use Rattle.hazard_types.specs.declared.codes.Status.TheVariants as status
use Rattle.hazard_types.specs.declared.hazard.Sig.{Sig}

-- the letter of a class
abbrev pub class_code : Class → List ℕ
class_code class.O = codes "O"
class_code class.T = codes "T"
class_code class.E = codes "E"
class_code class.X = codes "X"

-- the letters of an action
abbrev pub action_code : Action → List ℕ
action_code action.New = codes "NEW"
action_code action.Con = codes "CON"
action_code action.Exa = codes "EXA"
action_code action.Ext = codes "EXT"
action_code action.Exb = codes "EXB"
action_code action.Upg = codes "UPG"
action_code action.Can = codes "CAN"
action_code action.Exp = codes "EXP"
action_code action.Cor = codes "COR"
action_code action.Rou = codes "ROU"

-- the letter of a significance
abbrev pub sig_code : Sig → List ℕ
sig_code sig = sig_letter sig ∷ []

-- the character of a severity
abbrev pub severity_code : Severity → List ℕ
severity_code severity.N = codes "N"
severity_code severity.Zero = codes "0"
severity_code severity.One = codes "1"
severity_code severity.Two = codes "2"
severity_code severity.Three = codes "3"
severity_code severity.U = codes "U"

-- the letters of a status
abbrev pub status_code : Status → List ℕ
status_code status.No = codes "NO"
status_code status.Nr = codes "NR"
status_code status.Uu = codes "UU"
status_code status.Oo = codes "OO"
