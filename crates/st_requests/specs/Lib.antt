pub mod Mailing
pub mod Laws
