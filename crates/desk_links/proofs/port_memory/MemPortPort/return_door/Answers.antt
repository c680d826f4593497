use Rattle.std.proofs.Common.{rules, ◌≡◌, ◌∙◌, ◌++◌, ◌∷◌, [], ◌≤◌, ◌+◌, List, length, sym, ap, arith, length-append}
use Rattle.desk_links.specs.LinkMemory.{LinkInMemory, PortInMemory, all_links}
use Rattle.desk_links.proofs.Dealing.{put_behind, all_links_on}
use Rattle.desk_links.proofs.port_memory.MemPortPort.return_door.Goals as goal

abbrev back_is : goal.After-drop-node → Type 0
back_is c = c.append.new.self ≡ c.args.self.now.back ++ c.args.door.back ∷ []

was : (c : goal.After-drop-node) → c.args.self.now.back ≡ c.self.inside.back
was c = sym (ap (λ (p : PortInMemory). p.back) c.self.view_is)

new_is : (c : goal.After-drop-node) → back_is c
new_is c =
    let few : length c.self.inside.back ≤ length (all_links c.self.inside.back) = c.self.invariant.0 in
    let one : length c.into_node-node.result ≡ 1 = ap length c.into_node-node.ensures in
    let same = ap (λ (l : List (List LinkInMemory)). length (all_links l)) (was c) in
    put_behind c.append.result c.self.inside.back c.into_node-node.result c.append.new.self (c.append.ensures.succeeds (omega (arith, few, one, same, c.requires.few))) c.append.ensures.items
    ∙ ap (λ (l : List (List LinkInMemory)). l ++ c.into_node-node.result) (sym (was c))
    ∙ ap (λ (l : List (List LinkInMemory)). c.args.self.now.back ++ l) c.into_node-node.ensures

all_is : (c : goal.After-drop-node) → all_links c.append.new.self ≡ all_links c.args.self.now.back ++ c.args.door.back
all_is c = ap all_links (new_is c) ∙ all_links_on c.args.self.now.back c.args.door.back

pub invariant_of-self-2 : goal.invariant_of-self-2
invariant_of-self-2 c =
    let old : length c.self.inside.back ≤ length (all_links c.self.inside.back) = c.self.invariant.0 in
    let same = ap (λ (l : List (List LinkInMemory)). length (all_links l)) (was c) in
    let long = ap length (all_is c) ∙ length-append (all_links c.args.self.now.back) c.args.door.back in
    let more = ap length (new_is c) ∙ length-append c.args.self.now.back (c.args.door.back ∷ []) in
    let some : 1 ≤ length c.args.door.back = search rules in
    (omega (arith, old, same, long, more, some, ap length (was c)), c.self.invariant.1)

pub returns-clause-returned : goal.returns-clause-returned
returns-clause-returned c = ap length (all_is c) ∙ length-append (all_links c.args.self.now.back) c.args.door.back

pub returns-clause-links : goal.returns-clause-links
returns-clause-links c = all_is c
