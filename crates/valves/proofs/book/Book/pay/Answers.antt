use Rattle.std.proofs.Common.{◌<◌, length, rules}
use Rattle.std.proofs.lemmas.List.Sums.{get_or-le-sum_by}
use Rattle.valves.proofs.book.Book.pay.Goals as goal

-- both accounts are parts of the sum
pub overflow_add-self : goal.overflow_add-self
overflow_add-self c =
    let h : c.args.to < length c.args.self.now.accounts = search rules in
    let k : c.args.client < length c.args.self.now.accounts = search rules in
    search (rules, get_or-le-sum_by (λ x. x) c.args.self.now.accounts c.args.to 0 h, get_or-le-sum_by (λ x. x) c.args.self.now.accounts c.args.client 0 k)
