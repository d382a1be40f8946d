use Rattle.std.proofs.Common.{rules, subst, sym, ap, arith}
use Rattle.law_pools.specs.Words.{IsGivenOut}
use Rattle.server_pool.specs.Words.{item_room_in}
use Rattle.kernel_store.specs.Stored.{StoreValue}
use Rattle.kernel_store.proofs.Acts.{fills}
use Rattle.kernel_store.proofs.Alike.{given_out_same}
use Rattle.kernel_store.proofs.store.Store.reserve_notices.Goals as goal

pub returns-in_err-reserve-clause-keeps : goal.returns-in_err-reserve-clause-keeps
returns-in_err-reserve-clause-keeps c =
    fills (λ h. subst (λ (s : StoreValue). IsGivenOut s.pools) (sym c.self.view_is) h) (search rules) (search rules) (search rules) (search rules) (λ pool. search rules)

pub returns-in_err-renew_room-clause-keeps : goal.returns-in_err-renew_room-clause-keeps
returns-in_err-renew_room-clause-keeps c = record {
  given_out = λ h. given_out_same c.self.inside.pools c.renew_room.new.pools c.renew_room.ensures.same (subst (λ (s : StoreValue). IsGivenOut s.pools) (sym c.self.view_is) h);
  latest = search rules;
  opening = search rules;
  notice_room = search rules;
  short_room = search rules;
  items = λ pool.
      let kept = c.renew_room.ensures.kept.items pool in
      let here = ap (λ (s : StoreValue). item_room_in s.pools pool) c.self.view_is in
      omega (arith, kept, here);
}

pub returns-clause-keeps : goal.returns-clause-keeps
returns-clause-keeps c = record {
  given_out = λ h. given_out_same c.self.inside.pools c.renew_room.new.pools c.renew_room.ensures.same (subst (λ (s : StoreValue). IsGivenOut s.pools) (sym c.self.view_is) h);
  latest = search rules;
  opening = search rules;
  notice_room = search rules;
  short_room = search rules;
  items = λ pool.
      let kept = c.renew_room.ensures.kept.items pool in
      let here = ap (λ (s : StoreValue). item_room_in s.pools pool) c.self.view_is in
      omega (arith, kept, here);
}
