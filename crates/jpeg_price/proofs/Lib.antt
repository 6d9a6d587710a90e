-- What the answers of admit and charge say: laws for the calls above.
pub mod Charged
pub mod Admitted
