pub mod AsEver
pub mod OutcomeLaws
pub mod ContractLaws
pub mod ReplanningLaws
