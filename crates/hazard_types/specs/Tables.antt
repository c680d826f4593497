-- The tables of codes, row by row.
use Rattle.std.specs.Prelude.{ℕ, List, [], ◌∷◌, codes}
use Rattle.hazard_types.specs.Codes.{filled}
use Rattle.hazard_types.specs.declared.codes.Coded.{Coded}
use Rattle.hazard_types.specs.declared.codes.Class.{Class}
use Rattle.hazard_types.specs.declared.codes.Class.TheVariants as class
use Rattle.hazard_types.specs.declared.codes.Action.{Action}
use Rattle.hazard_types.specs.declared.codes.Action.TheVariants as action
use Rattle.hazard_types.specs.declared.hazard.Sig.{Sig}
use Rattle.hazard_types.specs.declared.hazard.Sig.TheVariants as sig
use Rattle.hazard_types.specs.declared.codes.Severity.{Severity}
use Rattle.hazard_types.specs.declared.codes.Severity.TheVariants as severity
use Rattle.hazard_types.specs.declared.codes.Status.{Status}
use Rattle.hazard_types.specs.declared.codes.Status.TheVariants as status
use Rattle.hazard_types.specs.declared.codes.Category.{Category}
use Rattle.hazard_types.specs.declared.codes.Category.TheVariants as category
use Rattle.hazard_types.specs.declared.codes.Cause.{Cause}

-- a row of a table: a code, filled up with blanks, and its value
abbrev pub row : {T : Type 0} → List ℕ → T → Coded T
row text value = record { code = filled text; value = value }

-- the classes: operational, test, experimental, experimental VTEC in an operational product
unfoldable pub class_rows : List (Coded Class)
class_rows =
    row (codes "O") class.O ∷ row (codes "T") class.T ∷ row (codes "E") class.E ∷
    row (codes "X") class.X ∷ []

unfoldable pub action_rows : List (Coded Action)
action_rows =
    row (codes "NEW") action.New ∷ row (codes "CON") action.Con ∷ row (codes "EXA") action.Exa ∷
    row (codes "EXT") action.Ext ∷ row (codes "EXB") action.Exb ∷
    row (codes "UPG") action.Upg ∷ row (codes "CAN") action.Can ∷ row (codes "EXP") action.Exp ∷
    row (codes "COR") action.Cor ∷ row (codes "ROU") action.Rou ∷ []

-- the significances: warning, watch, advisory, statement, forecast, outlook, synopsis
unfoldable pub sig_rows : List (Coded Sig)
sig_rows =
    row (codes "W") sig.W ∷ row (codes "A") sig.A ∷ row (codes "Y") sig.Y ∷ row (codes "S") sig.S ∷
    row (codes "F") sig.F ∷ row (codes "O") sig.O ∷ row (codes "N") sig.N ∷ []

-- the severities: none, areal or flash, minor, moderate, major, unknown
unfoldable pub severity_rows : List (Coded Severity)
severity_rows =
    row (codes "N") severity.N ∷ row (codes "0") severity.Zero ∷ row (codes "1") severity.One ∷
    row (codes "2") severity.Two ∷ row (codes "3") severity.Three ∷ row (codes "U") severity.U ∷ []

-- the causes: rainfall, snowmelt, rain and snowmelt, dam or levee, ice jam, multiple, unknown
unfoldable pub cause_rows : List (Coded Cause)
cause_rows =
    row (codes "ER") (codes "ER") ∷ row (codes "SM") (codes "SM") ∷ row (codes "RS") (codes "RS") ∷
    row (codes "DM") (codes "DM") ∷ row (codes "IJ") (codes "IJ") ∷
    row (codes "MC") (codes "MC") ∷ row (codes "UU") (codes "UU") ∷ []

unfoldable pub status_rows : List (Coded Status)
status_rows =
    row (codes "NO") status.No ∷ row (codes "NR") status.Nr ∷ row (codes "UU") status.Uu ∷
    row (codes "OO") status.Oo ∷ []

unfoldable pub category_rows : List (Coded Category)
category_rows =
    row (codes "WSW") category.Wsw ∷ row (codes "NPW") category.Npw ∷
    row (codes "RFW") category.Rfw ∷ row (codes "CFW") category.Cfw ∷
    row (codes "MWW") category.Mww ∷
    row (codes "FFA") category.Ffa ∷ row (codes "FLW") category.Flw ∷
    row (codes "FLS") category.Fls ∷ []
