use Rattle.warn_http.proofs.Targets.{aim_path, path_aim}
use Rattle.warn_http.proofs.laws.routes_are_paths.Goals as goal

pub returns-clause-path : goal.returns-clause-path
returns-clause-path c = aim_path

pub returns-clause-route : goal.returns-clause-route
returns-clause-route c = path_aim
